-- Deliveries hold: the order is that of the definition's branches, test by test; the rest are theorems of crates
-- refine_deliver and engine_order.
use Rattle.lib_base.proofs.Prelude.{ℕ, ◌≤◌, ◌-◌, ◌≡◌, ap, List, [], ◌∷◌, length, eqb, ltb, arith}
use Rattle.lib_base.proofs.Tools.{by_test, split}
use Rattle.spec_language.specs.Refusals.{foreign}
use Rattle.spec_language.specs.Rights.{may}
use Rattle.format_layout.specs.Layout.{event_count, senders_at, taken, waiting_count, running_flag}
use Rattle.run_arrive.specs.Arrivals.{queue_full}
use Rattle.run_burst.specs.Burst.{burst_on}
use Rattle.run_burst.specs.Commit.{is_commit}
use Rattle.run_preview.specs.Preview.{in_hand}
use Rattle.run_deliver.specs.Deliver.{delivery_refusal, deliver_after, deliver_full, deliver_known, deliver_with, deliver_on, taken_on}
use Rattle.run_deliver.specs.Delivery.{Delivery, taken_said}
use Rattle.refine_deliver.proofs.DeliveriesHold.{every_delivery, deliver_in_list}
use Rattle.refine_deliver.proofs.Takes.{always_taken_in}
use Rattle.engine_order.proofs.TakenHolds.{taken_tells}
use Rattle.back_compile.specs.Statements.{FirstUnmet}
use Rattle.back_compile.proofs.Orders.{need_true, need_most, need_less}
use Rattle.claims.specs.Demand1.{OurRound, hand_count}
use Rattle.claims.specs.Deliveries.{deliver_order, Deliveries}
use Rattle.claims.proofs.Demand1Holds.{need_ours}

-- an answer that is no refusal
known_large : (t l : List ℕ) (n e who : ℕ) (b : List ℕ) → 72057594037927936 ≤ (deliver_known t l n e who b).0
unfolding deliver_known deliver_full deliver_after
known_large t l n e who b =
    let P : Delivery → Type 0 = λ o. 72057594037927936 ≤ o.0 in
    by_test P (queue_full (waiting_count l) (running_flag l))
    (λ _. by_test P (ltb (length b) 8) (λ _. omega arith)
    (λ _. by_test P (is_commit (burst_on t 8192 l).0) (λ _. omega arith) (λ _. omega arith)))
    (λ _. omega arith)

order : (t l : List ℕ) (n e who : ℕ) (b : List ℕ) → FirstUnmet (deliver_order t l n e who) (λ r. 72057594037927936 ≤ r) (deliver_on t l n e who b).0
unfolding deliver_on deliver_with delivery_refusal
order t l n e who b =
    need_ours t l (λ a. rw a)
    (λ a. need_most n (taken l) (λ c. rw (a, c))
    (λ c. need_most (taken l) n (λ d. rw (a, c, d))
    (λ d. need_less who 8 (λ f. rw (a, c, d, f))
    (λ f. need_less e (event_count t) (λ g. rw (a, c, d, f, g))
    (λ g. need_true (may (senders_at t e) who) (λ h. rw (a, c, d, f, g, h))
    (λ h. need_less n 1000000 (λ i. rw (a, c, d, f, g, h, i)) (λ i. rw (a, c, d, f, g, h, i) (known_large t l n e who b))))))))

hand_is : (l : List ℕ) → in_hand (waiting_count l) (running_flag l) ≡ hand_count l
unfolding in_hand
hand_is l = split (eqb (running_flag l) 0) (λ e. rw e (omega arith)) (λ e. rw e)

taken_order : (t l : List ℕ) → FirstUnmet ((OurRound t l, foreign) ∷ []) (λ r. r ≡ taken_said (taken l) (hand_count l)) (taken_on t l)
unfolding taken_on
taken_order t l = need_ours t l (λ a. rw a) (λ a. rw a (ap (taken_said (taken l)) (hand_is l)))

pub deliveries : Deliveries
deliveries = record {
  order = order;
  taken_order = taken_order;
  each = every_delivery;
  in_lists = deliver_in_list;
  always = always_taken_in;
  tells = taken_tells;
}
