use Rattle.std.proofs.Common.{rules}
use Rattle.tl_text.specs.Words.{ended}
use Rattle.tl_beats.specs.Fronts.{after_cycle}
use Rattle.tl_beats.proofs.BeatLines.{joins, joined}
use Rattle.tl_beats.proofs.front_line.fields_line.Goals as goal

pub returns-clause-text : goal.returns-clause-text
returns-clause-text c = joins c.in_ok-beat.beat c.args.words.now c.in_ok-beat.rest.now (search rules) (search rules) (search rules) (search rules)

pub returns-clause-line : goal.returns-clause-line
returns-clause-line c = record {
  formed = search rules;
  text = joined (ended (after_cycle c.in_ok-beat.beat)) c.args.words.now c.in_ok-beat.rest.now (returns-clause-text c);
}
