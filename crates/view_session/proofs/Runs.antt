-- What a run says, by where it ends: in reading, in the answer, in writing, or behind all three.
use Rattle.std.proofs.Common.{◌≡◌, ◌⊎◌, ℕ, List, Ok, Err, ap, inl, inr, refl, arith}
use Rattle.byte_devices.specs.Device.{SourceSeen, SinkSeen}
use Rattle.byte_devices.specs.Transfer.{most_pulls, IsInputOf, ReadsToEnd}
use Rattle.pgm_codec.specs.{Graymap.Graymap, Writing.raw_text, declared.error.PgmError.PgmError}
use Rattle.pgm_codec.specs.{declared.error.PgmError.TheVariants.Memory}
use Rattle.pgm_codec.specs.Transfer.{IsOfMemory, IsOfDevice, WritesFile}
use Rattle.view_session.specs.Answering.{Answers}
use Rattle.run_faults.specs.RunError.{IsReadingFault, IsTransferFault}
use Rattle.run_faults.specs.{declared.run_error.RunError.RunError, declared.run_error.RunError.TheVariants.Pgm}

-- want of memory is no fault of a device
memory_is_no_failure : (e : PgmError) → IsOfMemory e → IsTransferFault (Pgm e) → ⊥
memory_is_no_failure e memory failure = let first : Pgm e ≡ Pgm Memory = ap Pgm memory in cc

-- a fault of the codec comes early, or of a device
by_fault : (X : Type 0) (e : PgmError) → IsOfMemory e ⊎ IsOfDevice e
    → IsReadingFault (Pgm e) ⊎ IsTransferFault (Pgm e) ⊎ X
by_fault X e (inl memory) = inl (ap Pgm memory)
by_fault X e (inr device) = inr (inl (ap Pgm device))

module _ {V U S K : Type 0} (answers : List ℕ → V → List ℕ → Type 0) (stops : List ℕ → RunError → Type 0)
    (reading : S → SourceSeen) (source source' : S) (writing : K → SinkSeen) (sink : K)
  where
    -- the source was not read to its end
    pub unread : (e : PgmError) → IsOfMemory e ⊎ IsOfDevice e
        → ReadsToEnd {T = U} IsOfMemory IsOfDevice most_pulls (Err e) (reading source) (reading source')
        → Answers answers stops (Err (Pgm e)) reading source source' writing sink sink
    unread e only read = record {
      responds = record {
        shown = tt;
        refused = by_fault _ e only;
        untouched = λ _. refl;
        written = λ _. inl refl;
      };
      devices = record {
        in_time = read.in_time;
        ended = by_fault _ e only;
        at_end = by_fault _ e only;
        device = λ failure. elim only [
          | inl memory ↦ absurd (memory_is_no_failure e memory failure)
          | inr device ↦ inl (read.device device)
        ];
        source_failure = λ risen. ap Pgm (read.failure risen);
        sink_failure = λ risen. absurd (omega (arith, risen));
      };
    }

    module _ (input : List ℕ) (bytes : U) (known : IsInputOf (reading source).remaining input)
        (read : ReadsToEnd {T = U} {E = PgmError} IsOfMemory IsOfDevice most_pulls (Ok bytes) (reading source)
        (reading source'))
      where
        -- the input has no answer
        pub unanswered : (e : RunError) → IsReadingFault e ⊎ stops input e → (IsTransferFault e → ⊥)
            → Answers answers stops (Err e) reading source source' writing sink sink
        unanswered e why no_device = record {
          responds = record {
            shown = tt;
            refused = elim why [ inl early ↦ inl early | inr stopped ↦ inr (inr (input, known, stopped)) ];
            untouched = λ _. refl;
            written = λ failure. absurd (no_device failure);
          };
          devices = record {
            in_time = read.in_time;
            ended = inr (inr read.ended);
            at_end = inr (inr read.at_end);
            device = λ failure. absurd (no_device failure);
            source_failure = λ risen. absurd (omega (arith, read.steady, risen));
            sink_failure = λ risen. absurd (omega (arith, risen));
          };
        }

        module _ (value : V) (image : Graymap) (answered : answers input value (raw_text image)) (sink' : K) where
          -- the file of the image that answers was not written, or a front of it
          pub unwritten : (e : PgmError) → WritesFile (raw_text image) (Err e) writing sink sink'
              → Answers answers stops (Err (Pgm e)) reading source source' writing sink sink'
          unwritten e file =
              let device : IsTransferFault (Pgm e) → IsOfDevice e = λ failure. elim file.only [
                | inl memory ↦ absurd (memory_is_no_failure e memory failure)
                | inr its ↦ its
              ] in
              record {
                responds = record {
                  shown = tt;
                  refused = by_fault _ e file.only;
                  untouched = λ none. elim file.only [
                    | inl memory ↦ file.untouched (ap Err memory)
                    | inr its ↦ absurd (none (ap Pgm its))
                  ];
                  written = λ failure. inr (
                    file.device (ap Err (device failure)),
                    (input, raw_text image, value, known, answered, file.front (ap Err (device failure))),
                  );
                };
                devices = record {
                  in_time = read.in_time;
                  ended = inr (inr read.ended);
                  at_end = inr (inr read.at_end);
                  device = λ failure. inr (file.device (ap Err (device failure)));
                  source_failure = λ risen. absurd (omega (arith, read.steady, risen));
                  sink_failure = λ risen. let device = file.failure risen in cc;
                };
              }

          -- the file of the image that answers was written
          pub written : (done : Unit {0}) → WritesFile (raw_text image) (Ok done) writing sink sink'
              → Answers answers stops (Ok value) reading source source' writing sink sink'
          written done file = record {
            responds = record {
              shown = (input, raw_text image, known, answered, file.text);
              refused = tt;
              untouched = tt;
              written = tt;
            };
            devices = record {
              in_time = read.in_time;
              ended = read.ended;
              at_end = read.at_end;
              device = tt;
              source_failure = λ risen. absurd (omega (arith, read.steady, risen));
              sink_failure = λ risen. absurd (let no = file.failure risen in cc);
            };
          }
