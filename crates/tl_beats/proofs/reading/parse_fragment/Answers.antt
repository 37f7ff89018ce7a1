use Rattle.tl_beats.proofs.FragmentTexts.{found_front, only_front}
use Rattle.tl_beats.proofs.reading.parse_fragment.Goals as goal

pub returns-clause-found : goal.returns-clause-found
returns-clause-found c = found_front c.args.bytes.now c.front_of.result c.front_of.ensures.exact c.front_of.ensures.used

pub returns-clause-only : goal.returns-clause-only
returns-clause-only c f rest is joins = only_front c.args.bytes.now rest c.front_of.result f c.front_of.ensures.exact c.front_of.ensures.used is joins
