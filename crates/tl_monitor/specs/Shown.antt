-- What a slot shows.
use Rattle.tl_monitor.specs.Places.{Place, Here, Out}
use Rattle.tl_monitor.specs.declared.slot.Content.{Content}
use Rattle.tl_monitor.specs.declared.slot.Content.TheVariants as content

abbrev pub shown : {M : Type 0} → Content M → Place
shown (content.Here held) = Here held
shown (content.Away away) = Out away
