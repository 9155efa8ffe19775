-- Until its copy-back an event's code leaves the store alone: only a restore writes it, and none stands before the
-- second off.
use Rattle.lib_base.proofs.Prelude.{ℕ, ◌≤◌, ◌<◌, ◌+◌, ◌-◌, ◌≡◌, ◌∙◌, sym, false, List, [], ◌∷◌, ◌++◌, append_assoc}
use Rattle.lib_base.proofs.Prelude.{length, take, length-append, take-append-le, leb-false, arith}
use Rattle.lib_base.specs.Basics.{All}
use Rattle.lib_base.proofs.Tools.{all_imp, all_join}
use Rattle.spec_language.specs.Syntax.{Program}
use Rattle.spec_language.specs.Code.{Instr, off, on, copy, code, members}
use Rattle.spec_execution.specs.Execution.{emptied, copying_back_after}
use Rattle.spec_execution.specs.Runs.{execute_all}
use Rattle.spec_execution.proofs.Lengths.{mid, length_C, length_code}
use Rattle.spec_execution.proofs.Calm.{Calm, Still, all_take, calm_copies, calm_mid, still_off, still_on, still_runs}
use Rattle.spec_execution.proofs.Masks.{copies, restores, code_shape, marks}

module _ (p : Program) (e : ℕ) where
  -- up to the second off
  abbrev front : List Instr
  front = off ∷ (copies p e ++ (on ∷ (mid p e ++ (off ∷ []))))

  front_first : code p e ≡ front ++ (restores p e ++ (on ∷ []))
  front_first = code_shape p e ∙ simp append_assoc

  still_front : All Still front
  still_front = (
    still_off,
    all_join Still (copies p e) _ (all_imp Calm Still (λ i h. h.1) (copies p e) (calm_copies p e))
        (still_on, all_join Still (mid p e) _ (all_imp Calm Still (λ i h. h.1) (mid p e) (calm_mid p e)) (still_off, tt)),
  )

  length_front : length front ≡ 3 + members p e + length (mid p e)
  length_front = simp length-append (omega (arith, length_C p e copy))

  pub quiet : (c : ℕ) (s : List ℕ) → c < length (code p e) → copying_back_after (take c (code p e)) ≡ false → (execute_all (take c (code p e)) (emptied s)).store ≡ s
  unfolding emptied
  quiet c s b h =
      let early : c < length (code p e) - (members p e + 1) = leb-false (length (code p e) - (members p e + 1)) c (sym (marks p e c b).1 ∙ h) in
      let short : c ≤ length front = omega (arith, length_front, length_code p e) in
      let same : take c (code p e) ≡ take c front = rw front_first (take-append-le c front (restores p e ++ (on ∷ [])) short) in
      rw same (still_runs (take c front) (all_take Still c front still_front) (emptied s))
