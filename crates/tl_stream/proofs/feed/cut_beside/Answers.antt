use Rattle.std.proofs.Common.{◌≡◌, ◌++◌, ℕ, length, take, drop, rules, sym, ap, subst, ◌∙◌}
use Rattle.std.specs.List.{flat_map}
use Rattle.tl_beats.specs.Text.{fragment_text}
use Rattle.tl_stream.specs.Parts.{joined_texts, AreParsed}
use Rattle.tl_stream.proofs.PartLemmas.{front_within, parsed_count, cut_is}
use Rattle.tl_stream.proofs.feed.cut_beside.Goals as goal

pub slice_bounds-byte_count-end : goal.slice_bounds-byte_count-end
slice_bounds-byte_count-end g c =
    let count = parsed_count c.deref.result.now c.in_ok-parsed.parsed c.in_ok-parsed.ensures in
    search rules

pub byte_count-requires : goal.byte_count-requires
byte_count-requires g c =
    let within = front_within c.left.result.now c.in_ok-texts.texts.items (length c.in_ok-parsed.parsed.fragments.items) c.in_ok-texts.ensures in
    search rules

pub pass-requires : goal.pass-requires
pass-requires g c =
    let within = front_within c.left.result.now c.in_ok-texts.texts.items (length c.in_ok-parsed.parsed.fragments.items) c.in_ok-texts.ensures in
    search rules

pub returns : goal.returns
returns g c =
    let n : ℕ = length c.in_ok-parsed.parsed.fragments.items in
    let are : AreParsed c.in_ok-texts.texts.items c.in_ok-parsed.parsed = subst (λ texts. AreParsed texts c.in_ok-parsed.parsed) c.deref.ensures.value c.in_ok-parsed.ensures in
    let cut = cut_is c.left.result.now c.in_ok-texts.texts.items c.in_ok-parsed.parsed c.in_ok-texts.ensures are in
    let count : length (joined_texts (take n c.in_ok-texts.texts.items)) ≡ c.byte_count.result = search rules in
    let passed : drop c.byte_count.result c.left.result.now ≡ c.pass.new.self = search rules in
    sym c.left.ensures ∙ cut ∙ ap (λ bytes. flat_map fragment_text c.in_ok-parsed.parsed.fragments.items ++ bytes) (ap (λ k. drop k c.left.result.now) count ∙ passed)
