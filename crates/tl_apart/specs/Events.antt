-- What an event of a link says.
use Rattle.tl_definitions.specs.Events as definitions
use Rattle.tl_apart.specs.declared.event.Event.{Event}

abbrev pub said : Event → definitions.Event
said e = record { place = e.place; op = e.op; block = e.block; sets = e.sets; closes = e.closes }
