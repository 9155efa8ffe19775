-- The whole claim holds: each part by the theorem of its crate.
use Rattle.spec_semantics.proofs.RoundsHold.{rounds_hold}
use Rattle.engine.proofs.Holds.{whole}
use Rattle.engine.proofs.RestDay.{rest_day}
use Rattle.secrecy_engine.proofs.HeardHolds.{rule_on}
use Rattle.refine_halves.proofs.HalvesHold.{half_boards}
use Rattle.refine_frames.proofs.FramesHold.{every_frame, frame_in_list}
use Rattle.refine_counts.proofs.CompiledTells.{every_table}
use Rattle.ask_agree.proofs.Answers.{answers}
use Rattle.engine_agree.proofs.AgreementHolds.{phones_agree, rounds_agree}
use Rattle.engine_agree.proofs.FinalHolds.{needed}
use Rattle.engine_agree_for.proofs.Answers.{for_answers}
use Rattle.engine_agree_for.proofs.ValuesHold.{one_value, each_agrees, each_round_agrees}
use Rattle.engine_agree_for.proofs.InOrderHolds.{one_value_in_order, each_in_order}
use Rattle.ask_pair.proofs.Answers.{pair_answers}
use Rattle.engine_leak.proofs.LeaklessHolds.{with_no_condition}
use Rattle.engine_order.proofs.PhonesHold.{in_order}
use Rattle.engine_order.proofs.ChangesHold.{in_order_changed}
use Rattle.engine_order.proofs.PatientHolds.{remedies}
use Rattle.engine_order.proofs.TablesSame.{same_tables}
use Rattle.claims.specs.Claims.{Claims}
use Rattle.claims.proofs.DeliveriesHold.{deliveries}
use Rattle.claims.proofs.Demand1Holds.{demand_1}
use Rattle.claims.proofs.RequestsHold.{exactly, halves_go_down, parameters, formulas, rights, circles, paper_order, rows, pooling}
use Rattle.claims.proofs.TextsHold.{texts}

pub claims : Claims
claims = record {
  refusals = demand_1;
  sheets = exactly;
  lists = whole;
  p_rounds = rounds_hold;
  quotients = halves_go_down;
  parameters = parameters;
  formulas = formulas;
  rest_day = rest_day;
  rights = rights;
  players = rule_on;
  circles = circles;
  paper_order = paper_order;
  rows = rows;
  pooling = pooling;
  halves = half_boards;
  frames = every_frame;
  frames_in_lists = frame_in_list;
  deliveries = deliveries;
  in_order = in_order;
  in_order_changed = in_order_changed;
  remedies = remedies;
  same_tables = same_tables;
  tables = every_table;
  agreement = answers;
  phones = phones_agree;
  rounds_agree = rounds_agree;
  condition_needed = needed;
  agreement_for = for_answers;
  one_value = one_value;
  each_agrees = each_agrees;
  each_round_agrees = each_round_agrees;
  one_value_in_order = one_value_in_order;
  each_in_order = each_in_order;
  pairs = pair_answers;
  leaks = with_no_condition;
  texts = texts;
}
