-- A text that is put together another way.
use Rattle.std.proofs.Common.{◌≡◌, ℕ, List, [], Option, Some, None, Result, Ok, Err, ◌∙◌, sym, ap}
use Rattle.std.specs.Option.{option_map, option_map_or}
use Rattle.std.proofs.lemmas.Option.{same_Some}
use Rattle.tl_topology.specs.declared.LinkDecl.{LinkDecl}
use Rattle.std.specs.Prelude.{IfOk, String, string_bytes}

pub in_words : {Z E : Type 0} (made : Result (String Z) E) (bytes target : List ℕ) → IfOk made (λ text. string_bytes text ≡ bytes) → bytes ≡ target → IfOk made (λ text. string_bytes text ≡ target)
in_words (Ok text) bytes target is e = is ∙ e
in_words (Err fault) bytes target is e = tt

-- the name of a link that is there
pub link_named : (found : Option (List ℕ × LinkDecl)) (decl : LinkDecl) → Some decl ≡ option_map (λ p. p.1) found → option_map_or (λ p. p.1.name) found [] ≡ decl.name
link_named None decl e = absurd cc
link_named (Some p) decl e = ap (λ (d : LinkDecl). d.name) (sym (same_Some _ _ e))
