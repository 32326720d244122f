use Rattle.std.proofs.Common.{rules, ap, ◌∙◌, subst, inl, inr, refl, List, ℕ}
use Rattle.std.proofs.lemmas.Result.{err_from_is_err_and}
use Rattle.view_session.specs.{MemoryFiles.MemoryFiles, MemoryFiles.held_by, Store.IsReplaced}
use Rattle.view_session.proofs.Files.{loaded_bytes}
use Rattle.view_session.proofs.memory_store.MemoryStoreStateStore.save.Goals as goal

pub returns-then-fails_now : goal.returns-then-fails_now
returns-then-fails_now g c = record {
  saves = record {
    saved = tt;
    not_saved = inl (inl refl, refl);
    files = λ name. ap (λ (s : MemoryFiles). s.held name) c.fails_now.ensures.counted;
    failures = inl (refl, search rules);
  };
  call = record { counted = search rules; chosen = search rules; same_choice = search rules };
}

pub returns-in_err-made : goal.returns-in_err-made
returns-in_err-made g c =
    let p = err_from_is_err_and c.from_residual.result c.from_residual.ensures.1 in
    rw (p.1, p.2) record {
      saves = record {
        saved = tt;
        not_saved = inr (inr (
          c.file.result.now,
          loaded_bytes _ _ c.file.result.now _
              (ap (λ (s : MemoryFiles). s.held c.args.path.now) c.fails_now.ensures.counted) c.file.ensures refl,
          c.in_err-made.ensures.refused,
        ));
        files = λ name. ap (λ (s : MemoryFiles). s.held name) c.fails_now.ensures.counted;
        failures = inr (c.in_err-made.ensures.no_store, search rules);
      };
      call = record { counted = search rules; chosen = search rules; same_choice = search rules };
    }

pub returns-in-Ok : goal.returns-in-Ok
returns-in-Ok g c = record {
  saves = record {
    saved = record {
      found = c.file.result.now;
      was_held = loaded_bytes _ _ c.file.result.now _
          (ap (λ (s : MemoryFiles). s.held c.args.path.now) c.fails_now.ensures.counted) c.file.ensures refl;
      made_over = c.in_ok-made.ensures.made;
      replaced = subst
          (λ (bytes : List ℕ). IsReplaced (held_by c.args.self.now.files) (held_by c.put.new.self.files) c.args.path.now
          bytes) c.deref.ensures.value
          (subst
          (λ (s : MemoryFiles). IsReplaced s.held (held_by c.put.new.self.files) c.args.path.now c.deref.result.now)
          c.fails_now.ensures.counted c.in-Ok.ensures.put.0);
    };
    not_saved = tt;
    files = tt;
    failures = search rules;
  };
  call = record { counted = search rules; chosen = search rules; same_choice = search rules };
}

pub returns-in-Err : goal.returns-in-Err
returns-in-Err g c = record {
  saves = record {
    saved = tt;
    not_saved = inr (inl (
      refl,
      c.file.result.now,
      c.in_ok-made.made.items,
      loaded_bytes _ _ c.file.result.now _
          (ap (λ (s : MemoryFiles). s.held c.args.path.now) c.fails_now.ensures.counted) c.file.ensures refl,
      c.in_ok-made.ensures.made,
    ));
    files = λ name. c.in-Err.ensures.kept.0 name ∙ ap (λ (s : MemoryFiles). s.held name) c.fails_now.ensures.counted;
    failures = inl (refl, search rules);
  };
  call = record { counted = search rules; chosen = search rules; same_choice = search rules };
}
