-- A node as the name that it is: the branches of the code.
use Rattle.lib_base.proofs.Prelude.{ℕ, ◌≤◌, ◌<◌, ◌+◌, ◌&&◌, leb, List, get_or, ◌≡◌, ◌∙◌, sym, ap, Bool, ◌||◌, or-false, and-false, eqb, ne_eqb}
use Rattle.lib_base.proofs.Prelude.{eqb-true, eq-eqb, eqb-false, arith}
use Rattle.lib_base.proofs.Tools.{split}
use Rattle.lib_bits.specs.Bits.{bit, Gathers}
use Rattle.draft_form.specs.Entry.{entry_kind, entry_start, entry_count, node_tag, node_word}
use Rattle.draft_form.specs.Draft.{entry_of, moved, used_by}
use Rattle.draft_form.proofs.DraftLaws.{used_at}
use Rattle.check_reads.specs.Sets.{is_name, named_among, names_on, writes_on, passive_on}

eqb_turned : (i j : ℕ) → eqb i j ≡ eqb j i
eqb_turned i j = split (eqb j i) (λ t. eq-eqb i j (sym (eqb-true j i t)) ∙ sym t) (λ t. ne_eqb i j (λ q. eqb-false j i t (sym q)) ∙ sym t)

pub a_name : (x j set next : ℕ) → node_tag x ≡ 17 → bit next j ≡ bit set j || eqb j (node_word x) → bit next j ≡ bit set j || is_name j x
unfolding is_name
a_name x j set next t e = rw (eq-eqb (node_tag x) 17 t) (e ∙ ap (λ (b : Bool). bit set j || b) (eqb_turned j (node_word x)))

pub no_name : (x j set : ℕ) → (node_tag x ≡ 17 → ⊥) → bit set j ≡ bit set j || is_name j x
unfolding is_name
no_name x j set t = rw (ne_eqb (node_tag x) 17 t) (sym (or-false (bit set j)))

pub far_name : (x j set : ℕ) → 64 ≤ node_word x → j < 64 → bit set j ≡ bit set j || is_name j x
unfolding is_name
far_name x j set h b = rw (ne_eqb (node_word x) j (λ q. omega arith), and-false (eqb (node_tag x) 17)) (sym (or-false (bit set j)))

-- node k of those from `start` on, as behaviour i means it
pub node_joins : (d : List ℕ) (i start k set next : ℕ) {x : ℕ} → x ≡ moved d i (get_or d (start + k) 0) → ((j : ℕ) → j < 64 → bit next j ≡ bit set j || is_name j x)
    → (j : ℕ) → j < 64 → bit next j ≡ bit set j || is_name j (get_or (used_by d i) (start + k) 0)
node_joins d i start k set next q e j h = rw (used_at d i (start + k), ← q) (e j h)

-- the entry of behaviour i on event e, as a handler, in its names, and as a passive
pub writer_joins : (d : List ℕ) (e i set next : ℕ) {v : ℕ} → v ≡ entry_of d e i → ((j : ℕ) → bit next j ≡ bit set j || (leb 2 (entry_kind v) && eqb j i))
    → (j : ℕ) → j < 64 → bit next j ≡ bit set j || (writes_on d e i && eqb j i)
unfolding writes_on
writer_joins d e i set next q f j h = rw (← q) (f j)

pub handler_joins : (d : List ℕ) (e i set next : ℕ) {v : ℕ} → v ≡ entry_of d e i
    → Gathers 64 next (λ j. bit set j || (leb 2 (entry_kind v) && named_among (used_by d i) j (entry_start v) (entry_count v)))
    → Gathers 64 next (λ j. bit set j || (writes_on d e i && names_on d e i j))
unfolding writes_on names_on
handler_joins d e i set next q f j h = rw (← q) (f j h)

pub passive_row : (d : List ℕ) (ev n i set : ℕ) {v : ℕ} → n ≤ 64 → v ≡ entry_of d ev i
    → Gathers 64 set (λ j. eqb (entry_kind v) 1 && named_among (used_by d i) j (entry_start v) (entry_count v)) → Gathers n set (passive_on d ev i)
unfolding passive_on names_on
passive_row d ev n i set few q g j b = rw (← q) (g j (omega arith))
