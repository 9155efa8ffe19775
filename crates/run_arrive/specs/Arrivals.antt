-- What arrive does to the round's bytes, for all bytes (layout: crate format_layout). 01 "Handlers and steps", "Why a
-- call was turned down": "Arrival: 14, 15, 16, 17."; 02, M-107: 24 after 14, 25 after 15. The answer is 0, or the
-- refusal's number. A function that branches takes plain numbers; one that reads calls it.
use Rattle.std.specs.Prelude.{Result, Ok, Err, ℕ, ◌+◌, Bool, List, leb, eqb}
use Rattle.lib_base.specs.Basics.{pick}
use Rattle.lib_word.specs.Word.{put}
use Rattle.spec_language.specs.Refusals.{foreign, no_player, undeclared_event, no_right, full_queue, spent}
use Rattle.spec_language.specs.Rights.{may}
use Rattle.spec_language.specs.declared.refusals.Refusal.{Refusal}
use Rattle.spec_language.specs.declared.refusals.Refusal.TheVariants.{NoPlayer, UndeclaredEvent, NoRight}
use Rattle.format_layout.specs.Layout.{event_count, senders_at, taken, waiting_count, running_flag}
use Rattle.format_layout.specs.Foreign.{hand_word, ours}
use Rattle.run_queue.specs.Queue.{put_slot}
use Rattle.format_layout.specs.Round.{CallResult}

-- `known` events are declared; `senders`: who may send event e. 24, 15 and 25, in this order, or nothing
unfoldable pub sending : ℕ → ℕ → ℕ → ℕ → Result (Unit {0}) Refusal
sending known senders e who =
    pick (leb 8 who) (Err NoPlayer) (pick (leb known e) (Err UndeclaredEvent) (pick (may senders who) (Ok tt) (Err NoRight)))

-- event e of player who joins: n wait, k are taken in
unfoldable pub admit : List ℕ → ℕ → ℕ → ℕ → ℕ → List ℕ
admit l e who n k = put (put (put_slot l n k (hand_word e who)) 0 (k + 1)) 1 (n + 1)

-- 64 in the queue (01: hand), of which n wait; f: one runs
unfoldable pub queue_full : ℕ → ℕ → Bool
queue_full n f = pick (eqb f 0) (leb 64 n) (leb 63 n)

-- the event is declared, and the player one of eight; `right`: who may send it
unfoldable pub arrive_with : List ℕ → ℕ → ℕ → Bool → ℕ → Bool → ℕ → CallResult
arrive_with l e who right n h k =
    pick right (pick h (full_queue, l) (pick (leb 1000000 k) (spent, l) (0, admit l e who n k))) (no_right, l)

unfoldable pub arrive_known : List ℕ → List ℕ → ℕ → ℕ → CallResult
arrive_known t l e who = arrive_with l e who (may (senders_at t e) who) (waiting_count l) (queue_full (waiting_count l) (running_flag l)) (taken l)

unfoldable pub arrive_in : List ℕ → List ℕ → ℕ → ℕ → CallResult
arrive_in t l e who = pick (leb 8 who) (no_player, l) (pick (leb (event_count t) e) (undeclared_event, l) (arrive_known t l e who))

unfoldable pub arrive_on : List ℕ → List ℕ → ℕ → ℕ → CallResult
arrive_on t l e who = pick (ours t l) (arrive_in t l e who) (foreign, l)
