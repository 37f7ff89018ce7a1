use Rattle.tl_text.specs.Words.{lines_of}
use Rattle.tl_text.specs.Readings.{Gives}
use Rattle.tl_beats.specs.Faults.{is_memory}
use Rattle.tl_beats.specs.Fragments.{Frag}
use Rattle.tl_beats.specs.Reading.{whole_fragment_in}
use Rattle.tl_beats.proofs.FragmentTexts.{found_input, only_input}
use Rattle.tl_beats.proofs.reading.read_fragment.Goals as goal

pub returns-clause-found : goal.returns-clause-found
returns-clause-found g c =
    let read : Gives is_memory (λ (f : Frag). f) c.whole_fragment.result (whole_fragment_in (lines_of c.in_ok-text.text.items)) = rw c.deref.ensures.value at c.whole_fragment.ensures.exact in
    found_input (g.I.ByteIn.remaining c.args.input.now) c.in_ok-text.text.items c.whole_fragment.result c.in_ok-text.ensures.ok.1 read

pub returns-clause-only : goal.returns-clause-only
returns-clause-only g c =
    let read : Gives is_memory (λ (f : Frag). f) c.whole_fragment.result (whole_fragment_in (lines_of c.in_ok-text.text.items)) = rw c.deref.ensures.value at c.whole_fragment.ensures.exact in
    only_input (g.I.ByteIn.remaining c.args.input.now) c.in_ok-text.text.items c.whole_fragment.result c.in_ok-text.ensures.ok.1 read c.whole_fragment.ensures.inside
