use Rattle.tl_beats.specs.Faults.{is_memory}
use Rattle.tl_beats.proofs.FragmentTexts.{found_whole, only_whole}
use Rattle.tl_beats.proofs.reading.parse_whole_fragment.Goals as goal

pub returns-clause-found : goal.returns-clause-found
returns-clause-found c = found_whole is_memory c.args.bytes.now c.whole_fragment.result c.whole_fragment.ensures.exact

pub returns-clause-only : goal.returns-clause-only
returns-clause-only c f is short same = only_whole is_memory c.args.bytes.now c.whole_fragment.result f c.whole_fragment.ensures.exact is same
