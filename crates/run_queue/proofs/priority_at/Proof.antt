-- The priority is the first word of the record of the slot's event, which has one: the definition's test holds.
use Rattle.lib_base.proofs.Prelude.{ℕ, ◌<◌, ◌+◌, ◌*◌, ◌≡◌, List, lt-ltb, rules, arith}
use Rattle.lib_word.specs.Word.{get}
use Rattle.format_layout.specs.Layout.{event_word}
use Rattle.run_queue.proofs.priority_at.Statement.{statement}
use Rattle.run_queue.proofs.priority_at.Tie as tie

of_record : (t : List ℕ) {e f p : ℕ} → f < 32 → e ≡ f → p ≡ get t (8 + e * 4 + 0) → p ≡ event_word t f 0
unfolding event_word
of_record t {e} {f} h d q = rw (lt-ltb f 32 h, ← d) q

pub priority_at_spec : {M : Type 1} → statement M
priority_at_spec =
    tie.close
    (tie.spec (search rules) (search rules) (search rules) (search rules)
    (λ c. omega (arith, c.event_at-event.ensures, c.before.before.before.requires.3))
    (λ c. omega (arith, c.event_at-event.ensures, c.before.before.before.requires.3))
    (λ c. omega (arith, c.event_at-event.ensures, c.before.before.before.requires.3))
    (λ c κs. omega (arith, c.event_at-event.ensures, c.before.before.before.requires.0, c.before.before.before.requires.3))
    (λ c. of_record _ c.before.before.before.before.requires.3 c.before.event_at-event.ensures c.get_word.ensures))
