-- An entry that no refusal fits, and how one joins the hand.
use Rattle.lib_base.proofs.Prelude.{ℕ, ◌≤◌, ◌<◌, ◌≡◌, refl, true, List, le-ltb, lt-leb}
use Rattle.lib_base.proofs.Pick.{branches}
use Rattle.spec_language.specs.Rights.{may}
use Rattle.format_layout.specs.Layout.{waiting_count}
use Rattle.run_arrive.specs.Arrivals.{admit}
use Rattle.run_deliver.specs.Deliver.{delivery_refusal, admitted}

pub no_refusal : (k known senders number e who : ℕ) → number ≤ k → k ≤ number → who < 8 → e < known → may senders who ≡ true
    → number < 1000000 → 0 ≡ delivery_refusal k known senders number e who
unfolding delivery_refusal
no_refusal k known senders number e who a b c d r h =
    rw (le-ltb k number a, le-ltb number k b, lt-leb 8 who c, lt-leb known e d, r, lt-leb 1000000 number h)

pub admitted_is : (l : List ℕ) (number e who : ℕ) → admitted l number e who ≡ admit l e who (waiting_count l) number
unfolding admitted
admitted_is l number e who = refl

pub ruleset joining = (branches, admitted_is)
