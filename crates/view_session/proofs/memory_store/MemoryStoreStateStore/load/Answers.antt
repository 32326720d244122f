use Rattle.std.proofs.Common.{rules, ap}
use Rattle.view_session.specs.MemoryFiles.{MemoryFiles}
use Rattle.view_session.proofs.Files.{loaded_bytes}
use Rattle.view_session.proofs.memory_store.MemoryStoreStateStore.load.Goals as goal

pub returns-then-fails_now : goal.returns-then-fails_now
returns-then-fails_now c = record {
  loads = record {
    bytes = search rules;
    files = λ name. ap (λ (s : MemoryFiles). s.held name) c.fails_now.ensures.counted;
    failures = search rules;
  };
  call = record { counted = search rules; chosen = search rules; same_choice = search rules };
  others = search rules;
}

pub returns-in-Ok : goal.returns-in-Ok
returns-in-Ok c = record {
  loads = record {
    bytes = loaded_bytes _ _ _ _ (ap (λ (s : MemoryFiles). s.held c.args.path.now) c.fails_now.ensures.counted)
        c.file.ensures c.in-Ok.ensures.items;
    files = λ name. ap (λ (s : MemoryFiles). s.held name) c.fails_now.ensures.counted;
    failures = search rules;
  };
  call = record { counted = search rules; chosen = search rules; same_choice = search rules };
  others = search rules;
}

pub returns-in-Err : goal.returns-in-Err
returns-in-Err c = record {
  loads = record {
    bytes = search rules;
    files = λ name. ap (λ (s : MemoryFiles). s.held name) c.fails_now.ensures.counted;
    failures = search rules;
  };
  call = record { counted = search rules; chosen = search rules; same_choice = search rules };
  others = search rules;
}
