use Rattle.std.proofs.Common.{◌≡◌, take}
use Rattle.std.specs.List.{AllByRecursion}
use Rattle.tl_apart.specs.Holder.{shown, nothing_shown}
use Rattle.tl_apart.specs.Holders.{links_of}
use Rattle.tl_apart.proofs.holders.Holders.new.Given as goal

-- one for each of so many links, of which nothing is known
abbrev pub invariant-loop-client : goal.invariant-loop-client
invariant-loop-client l = record {
  links : links_of l.holders.items ≡ take l.client-index l.clients;
  nothing : AllByRecursion (λ holder. shown holder ≡ nothing_shown) l.holders.items;
}
