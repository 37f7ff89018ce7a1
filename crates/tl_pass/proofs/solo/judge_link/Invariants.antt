use Rattle.std.proofs.Common.{◌≤◌, [], length, take}
use Rattle.tl_definitions.specs.LinkPasses.{LinkSnapshot, link_judging}
use Rattle.tl_definitions.specs.Positions.{placed_from}
use Rattle.tl_check.specs.Apart.{Shows, AreFormed, one_link}
use Rattle.tl_pass.specs.Solo.{AreJudged}
use Rattle.tl_pass.proofs.solo.judge_link.Given as goal

abbrev pub invariant-loop-index : goal.invariant-loop-index
invariant-loop-index l = record {
  within : l.index ≤ length l.piece.beats;
  formed : AreFormed l.state;
  judged : (s : LinkSnapshot) → Shows l.fn.state s
      → (t : LinkSnapshot) × Shows l.state t × AreJudged (link_judging (one_link l.decl l.exponent [])) s (placed_from l.link l.piece.number 2 (take l.index l.piece.beats)) t l.rows.items;
}
