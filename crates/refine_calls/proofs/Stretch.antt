-- A stretch of a table's instructions on the round's bytes is these instructions run on the values, where the abstract
-- check lets each pass: none is refused, and the bytes then hold the values that they lead to. By induction on the
-- instructions.
use Rattle.lib_base.proofs.Prelude.{ℕ, ◌≤◌, ◌<◌, ◌+◌, suc, ◌*◌, ◌%◌, ◌/◌, ◌≡◌, refl, ◌∙◌, true, List, [], ◌∷◌, length}
use Rattle.lib_base.proofs.Prelude.{get_or, arith}
use Rattle.lib_word.specs.Word.{get}
use Rattle.lib_word.proofs.Laws.{long}
use Rattle.spec_language.specs.Code.{Instr, off}
use Rattle.spec_execution.specs.Execution.{Values, execute}
use Rattle.spec_execution.specs.Runs.{execute_all}
use Rattle.spec_execution.specs.Safe.{Filled, Ok, filled_next, Safe, Matches}
use Rattle.spec_execution.proofs.SafeLaws.{next_matches}
use Rattle.format_image.specs.Image.{operation, constant}
use Rattle.format_layout.specs.Round.{CallResult}
use Rattle.run_stretch.specs.Stretch.{stretch_on, stretch_at, stretch_from}
use Rattle.refine_calls.proofs.Values.{Holds}
use Rattle.refine_calls.proofs.Instructions.{Does, does}

-- the instructions `is` stand in the table t from instruction k on
abbrev pub Stands : List ℕ → ℕ → List Instr → Type 0
Stands t k is = (c : ℕ) → c < length is → (get t (512 + (k + c) * 2) ≡ operation (get_or is c off)) × (get t (513 + (k + c) * 2) ≡ constant (get_or is c off))

-- what a stretch leads to, in the bytes
abbrev pub Leads : ℕ → Values → CallResult → Type 0
Leads n d x = (x.0 ≡ 0) × (long x.1 ≡ true) × Holds n x.1 d

module _ (n : ℕ) (few : n ≤ 64) (t : List ℕ) where
  one : (k : ℕ) (i : Instr) (l : List ℕ) (d : Values) (a : Filled) → get t (512 + k * 2) ≡ operation i → get t (513 + k * 2) ≡ constant i
      → Ok a i → Matches d a → long l ≡ true → Holds n l d → Leads n (execute i d) (stretch_at t l k)
  unfolding stretch_at stretch_on
  one k i l d a x y ok m g h =
      let z : Does n l (execute i d) (operation i / 256) (operation i % 256) (constant i) = does n few l d g h a m i ok in
      rw (x, y, z.may) (refl, z.framed.whole ∙ g, z.holds)

  stands_on : (k : ℕ) (i : Instr) (is : List Instr) → Stands t k (i ∷ is) → Stands t (k + 1) is
  stands_on k i is s c b = let z : k + 1 + c ≡ k + suc c = omega arith in rw z (s (suc c) (omega arith))

  pub stretch : (is : List Instr) (k : ℕ) (l : List ℕ) (d : Values) (a : Filled) → Stands t k is → Safe a is → Matches d a → long l ≡ true → Holds n l d
      → Leads n (execute_all is d) (stretch_from t k (length is) l)
  unfolding stretch_from execute_all
  stretch [] k l d a s safe m g h = (refl, g, h)
  stretch (i ∷ is) k l d a s safe m g h =
      let z : k + 0 ≡ k = omega arith in
      let x = rw z at (s 0 (omega arith)) in
      let o : Leads n (execute i d) (stretch_at t l k) = one k i l d a x.0 x.1 safe.0 m g h in
      rw o.0 (stretch is (k + 1) (stretch_at t l k).1 (execute i d) (filled_next a i) (stands_on k i is s) safe.1 (next_matches i d a safe.0 m) o.1 o.2)
