-- A delivery, for all bytes: entry `number` of the order that the phones of a match share, taken in once and in its
-- place. With a full hand it makes steps until one commits, and then takes the entry in. And what is taken in and in
-- hand. A function that branches takes plain numbers; one that reads calls it.
use Rattle.std.specs.Prelude.{ℕ, ◌-◌, List, length, ltb, leb, eqb}
use Rattle.lib_base.specs.Basics.{pick}
use Rattle.spec_language.specs.Refusals.{foreign, missing_entries, taken_before, no_player, undeclared_event, no_right, spent}
use Rattle.spec_language.specs.Rights.{may}
use Rattle.format_layout.specs.Layout.{event_count, senders_at, taken, waiting_count, running_flag}
use Rattle.format_layout.specs.Foreign.{ours}
use Rattle.run_answers.specs.Answers.{put_answer}
use Rattle.run_arrive.specs.Arrivals.{admit, queue_full}
use Rattle.run_burst.specs.Burst.{Burst, burst_on}
use Rattle.run_burst.specs.Commit.{is_commit}
use Rattle.run_frame.specs.Frame.{frame_said}
use Rattle.run_preview.specs.Preview.{in_hand}
use Rattle.run_deliver.specs.Delivery.{delivered_now, no_commit_room, broken_off, Delivery, taken_said}

-- ---- the answer: a refusal's number, or an outcome, the commits written and the steps made, packed as a frame's

-- ---- refusals, and nothing is changed

-- k being taken in and `known` events declared; `senders`: who may send the event. "43 where fewer than `number` were
-- taken in .., 44 where more ..; then 24, 15, 25, 17"; 0 where none of them fits
unfoldable pub delivery_refusal : ℕ → ℕ → ℕ → ℕ → ℕ → ℕ → ℕ
delivery_refusal k known senders number e who =
    pick (ltb k number) missing_entries
    (pick (ltb number k) taken_before
    (pick (leb 8 who) no_player
    (pick (leb known e) undeclared_event
    (pick (may senders who) (pick (leb 1000000 number) spent 0) no_right))))

-- ---- room

-- the steps that a delivery makes at most: twice the instructions that a table has room for. The running event has at
-- most so many left, and then one that it is preempted by
abbrev pub room_steps : ℕ
room_steps = 8192

-- event e of player who joins under this number
unfoldable pub admitted : List ℕ → ℕ → ℕ → ℕ → List ℕ
admitted l number e who = admit l e who (waiting_count l) number

-- after the steps o: one that commits has made room
unfoldable pub deliver_after : Burst → ℕ → ℕ → ℕ → List ℕ → Delivery
deliver_after o number e who b =
    pick (is_commit o.0) (frame_said delivered_now (room_steps - o.1) 1, admitted o.2 number e who, put_answer b 0 o.0)
    (frame_said broken_off (room_steps - o.1) 0, o.2, b)

-- the hand is full
unfoldable pub deliver_full : List ℕ → List ℕ → ℕ → ℕ → ℕ → List ℕ → Delivery
deliver_full t l number e who b =
    pick (ltb (length b) 8) (frame_said no_commit_room 0 0, l, b) (deliver_after (burst_on t room_steps l) number e who b)

-- ---- the delivery

-- none of its refusals fits
unfoldable pub deliver_known : List ℕ → List ℕ → ℕ → ℕ → ℕ → List ℕ → Delivery
deliver_known t l number e who b =
    pick (queue_full (waiting_count l) (running_flag l)) (deliver_full t l number e who b)
    (frame_said delivered_now 0 0, admitted l number e who, b)

-- r is the refusal's number, or 0
unfoldable pub deliver_with : List ℕ → List ℕ → ℕ → ℕ → ℕ → ℕ → List ℕ → Delivery
deliver_with t l r number e who b = pick (eqb r 0) (deliver_known t l number e who b) (r, l, b)

unfoldable pub deliver_on : List ℕ → List ℕ → ℕ → ℕ → ℕ → List ℕ → Delivery
deliver_on t l number e who b =
    pick (ours t l) (deliver_with t l (delivery_refusal (taken l) (event_count t) (senders_at t e) number e who) number e who b)
    (foreign, l, b)

-- ---- what is taken in, and how many of them are in hand: 2 ^ 32, the number taken in, and 2 ^ 40 for each in hand

unfoldable pub taken_on : List ℕ → List ℕ → ℕ
taken_on t l = pick (ours t l) (taken_said (taken l) (in_hand (waiting_count l) (running_flag l))) foreign
