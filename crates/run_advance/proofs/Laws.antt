-- The running one's instruction lies in the table: its code does, and it is not past its end.
use Rattle.lib_base.proofs.Prelude.{ℕ, ◌<◌, ◌+◌, ◌≡◌, List, arith}
use Rattle.lib_word.specs.Word.{get}
use Rattle.format_layout.specs.Layout.{event_count, event_word, event_of, running_event}
use Rattle.format_layout.specs.Bounds.{TableBounds}

pub in_code : (t l : List ℕ) {hand e c a len : ℕ} → TableBounds t → running_event l < event_count t → hand ≡ get l 3 → e ≡ event_of hand → a ≡ event_word t e 1
    → len ≡ event_word t e 2 → c < len → a + c < 4096
in_code t l {hand} {e} {c} {a} {len} b k o p q r h =
    let s : a ≡ event_word t (running_event l) 1 = rw (p, o) at q in
    let m : len ≡ event_word t (running_event l) 2 = rw (p, o) at r in
    omega (arith, b.codes (running_event l) k)
