-- Lists of deliveries are lists of demand 3: what `agree_for` promises of these it promises of phones that share an
-- order, since with the same number taken in both have taken in the same beginning of it.
use Rattle.lib_base.proofs.Prelude.{ℕ, ◌≡◌, ◌∙◌, sym, ap, subst, map}
use Rattle.lib_base.proofs.Tools.{all_imp}
use Rattle.spec_language.specs.Syntax.{Program}
use Rattle.spec_semantics.specs.Meaning.{at}
use Rattle.spec_model.specs.Model.{call}
use Rattle.spec_model.specs.Claims.{taken_in_by, events_of}
use Rattle.back_compile.specs.Compiled.{program_of}
use Rattle.refine_calls.specs.Refinement.{Bytes}
use Rattle.refine_lists.specs.Lists.{board_of, IdleNow, SheetTurn, calling, mending, fresh_round_on}
use Rattle.engine_order.specs.Orders.{first_entries, app_after, taken_now}
use Rattle.engine_order.proofs.PhonesHold.{one_phone, two_phones}
use Rattle.engine_order.proofs.ChangesHold.{OfChange, two_changed}
use Rattle.engine_agree_for.specs.OneBehaviour.{ZeroForEach, EachAgreesToo}
use Rattle.engine_agree_for.specs.OneBehaviourInOrder.{OneValueInOrder, EachInOrder}
use Rattle.engine_agree_for.proofs.ValuesHold.{one_value, each_agrees, each_round_agrees}

pub one_value_in_order : OneValueInOrder
one_value_in_order s ps qs t₀ l₀ t₁ l₁ x r order short cs ds oc od same b h z ic id =
    let p : Program = program_of ps x in
    let k = one_phone s ps t₀ l₀ x r.one order short cs oc in
    let m = one_phone s qs t₁ l₁ x r.other order short ds od in
    let other : taken_in_by p (map call m.list) ≡ first_entries (taken_now (app_after order ds (fresh_round_on s qs t₁ l₁))) order =
    subst (λ (q : Program). taken_in_by q (map call m.list) ≡ first_entries (taken_now (app_after order ds (fresh_round_on s qs t₁ l₁))) order) r.filled m.taken_in in
    let events_same : events_of (taken_in_by p (map call k.list)) ≡ events_of (taken_in_by p (map call m.list)) =
    ap events_of (k.taken_in ∙ ap (λ (n : ℕ). first_entries n order) same ∙ sym other) in
    ap (λ (y : Bytes). at (board_of p y.round) b) k.leaves
    ∙ one_value s ps qs t₀ l₀ t₁ l₁ x r k.list m.list events_same b h z (subst IdleNow k.leaves ic) (subst IdleNow m.leaves id)
    ∙ sym (ap (λ (y : Bytes). at (board_of p y.round) b) m.leaves)

each_too : (x : SheetTurn) → OfChange ZeroForEach x → EachAgreesToo x
each_too (calling c) h = h
each_too (mending s ps t) h = h

pub each_in_order : EachInOrder
each_in_order = record {
  agreed = two_phones (λ s ps p l. ZeroForEach s ps) each_agrees;
  changed = two_changed ZeroForEach
      (λ s ps qs t₀ l₀ t₁ l₁ x r xs ys kx ky ts us mt mu same kept z.
      each_round_agrees s ps qs t₀ l₀ t₁ l₁ x r xs ys kx ky ts us mt mu same kept (z.0, all_imp (OfChange ZeroForEach) EachAgreesToo each_too xs z.1));
}
