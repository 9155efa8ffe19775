-- The whole claim: a part for each sentence of the three demands and of document 02's requests, in the papers' order.
-- Demand 2's first sentence and demand 3 with M-100, M-101, M-104, M-112 and M-113, which are of its lists, are the
-- parts of `OneList`, one by one (refine_lists, Lists.antt). All of it is about the functions that the contracts of the
-- exported calls cite: `compile_on`, `start_on`, `arrive_on`, `step_on`, `board_on`, `forecast_on`, `preview_on`,
-- `mend_on`, `formula_on`, `join_on`, `told_on`, `frame_on`, `deliver_on`, `taken_on`, `agree_on`, `agree_for_on`,
-- `pair_on`, `leak_on`. proofs/ClaimsHold.antt has the one theorem that proves it.
use Rattle.lib_base.specs.Basics.{All}
use Rattle.spec_semantics.specs.Rounds.{Holds, rounds}
use Rattle.engine.specs.Demand.{WholeDemand}
use Rattle.engine.specs.RestDay.{RestDay}
use Rattle.secrecy_engine.specs.Heard.{RuleOn}
use Rattle.refine_halves.specs.HalfBoards.{HalfBoards}
use Rattle.refine_frames.specs.Frames.{EveryFrame, FrameInList}
use Rattle.refine_counts.specs.Compiled.{EveryTable}
use Rattle.ask_agree.specs.Claims.{AgreeAnswers as Agreement}
use Rattle.engine_agree.specs.Agreement.{PhonesAgree, RoundsAgree}
use Rattle.engine_agree.specs.Final.{Needed}
use Rattle.engine_agree_for.specs.OneBehaviour.{AgreeForAnswers as AgreementFor, OneValue, EachAgrees, EachRoundAgrees}
use Rattle.engine_agree_for.specs.OneBehaviourInOrder.{OneValueInOrder, EachInOrder}
use Rattle.ask_pair.specs.Claims.{PairAnswers as Pairs}
use Rattle.engine_leak.specs.Leakless.{WithNoCondition as NoLeak}
use Rattle.engine_order.specs.Orders.{SharedOrder}
use Rattle.engine_order.specs.Changes.{SharedOrderChanged}
use Rattle.engine_order.specs.Remedies.{Remedies}
use Rattle.engine_order.specs.SameTables.{SameTables}
use Rattle.claims.specs.Deliveries.{Deliveries}
use Rattle.claims.specs.Demand1.{Demand1}
use Rattle.claims.specs.Texts.{Texts}
use Rattle.claims.specs.Requests.{HalvesGoDown, Parameters, Formulas, Rights, Circles, PaperOrder, Rows, Pooling}
use Rattle.claims.specs.Demand2.{AcceptedExactly}

pub record Claims : Type 0 where
  -- 1. "A call is refused by the conditions and order of document 01, and then the handler table, the round and the
  -- board are unchanged. Every other call, for all bytes and numbers, is accepted, ends, and stays inside the buffers
  -- lent to it."
  pub refusals : Demand1
  -- 2. "With a table of 01's size, a sheet is accepted exactly if it meets 01's grammar and limits and has no circle,
  -- under an event or under none."
  pub sheets : AcceptedExactly
  -- 2. "An event run alone leaves on the board, for every behaviour, the value that the paper's big-step rules .. give
  -- with 01's arithmetic." 3. "For every list of arrivals, steps and board readings ..", with changes of sheets; and
  -- M-100, M-101, M-104, M-112, M-113: `OneList`; "And for every two such lists ..": `TwoLists`
  pub lists : WholeDemand
  -- "The P rounds are shown from the meaning in one table with one theorem": by Figure 1's rules, of the sheets' bytes
  pub p_rounds : All Holds rounds
  -- M-102, halves go down
  pub quotients : HalvesGoDown
  -- M-103, easy and hard from one sheet
  pub parameters : Parameters
  -- M-105, formulas as we write them
  pub formulas : Formulas
  -- M-106, a rest day
  pub rest_day : RestDay
  -- M-107, players and what they may do; and the rule for a player
  pub rights : Rights
  pub players : RuleOn
  -- M-108, show me the circle
  pub circles : Circles
  -- M-109, the compiler in the paper's order
  pub paper_order : PaperOrder
  -- M-110, rows for grid puzzles
  pub rows : Rows
  -- M-111, pool two sheets; "each half of the joined board equals that sheet's own board"
  pub pooling : Pooling
  pub halves : HalfBoards
  -- a frame is the steps that it makes, its commits theirs in order, none lost; so demand 3's lists may hold it
  pub frames : EveryFrame
  pub frames_in_lists : FrameInList
  -- a delivery: its refusals in their order; it is the steps that it makes and its arrival, and on demand 3's lists it
  -- takes the next entry in; what `taken` tells
  pub deliveries : Deliveries
  -- phones that share an order: what is taken in is a beginning of it, and where `agree` is 0 boards are equal when
  -- both are idle with the same number taken in; with changes of sheets too, each on an idle round at the same number
  pub in_order : SharedOrder
  pub in_order_changed : SharedOrderChanged
  -- what a host can do whatever `agree` says: equal commits give equal boards, and one by one commits go as handed in
  pub remedies : Remedies
  -- a table's bytes depend on sheet and parameters alone
  pub same_tables : SameTables
  -- a table tells its sheet's counts and ranks
  pub tables : EveryTable
  -- will two phones agree? 0 exactly if all declared events of unequal rank are independent, and what is named is true;
  -- then demand 3's last sentence holds with no condition left; and the condition is needed
  pub agreement : Agreement
  pub phones : PhonesAgree
  pub rounds_agree : RoundsAgree
  pub condition_needed : Needed
  -- will they agree on one behaviour? 0 exactly if no two events of unequal rank meet in what it depends on, which a 0
  -- of `agree` implies, and what is named is true; then its value is equal on both phones, whatever the rest of the
  -- board does; and where it is 0 for each behaviour, in every sheet, their boards are equal
  pub agreement_for : AgreementFor
  pub one_value : OneValue
  pub each_agrees : EachAgrees
  pub each_round_agrees : EachRoundAgrees
  -- the same of phones that share an order, idle with the same number taken in; with changes of sheets, of the boards
  pub one_value_in_order : OneValueInOrder
  pub each_in_order : EachInOrder
  -- what do two events share? 15 exactly if one is not declared, 0 exactly if they are independent, else the least
  -- behaviour at which they meet or, where there is none, that they share, with what each of the two does to it
  pub pairs : Pairs
  -- may a hidden value leak to a player? 0 exactly under M-107's condition, and what is named is true; then M-107's
  -- rule holds with no condition left; with changes of sheets, where each sheet gets 0, none but M-112's own: at each
  -- change the same behaviours are hidden
  pub leaks : NoLeak
  -- a sheet as its setter writes it
  pub texts : Texts
