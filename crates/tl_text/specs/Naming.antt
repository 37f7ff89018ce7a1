-- Names as the bytes of their text.
use Rattle.std.specs.Prelude.{◌≡◌, ℕ, ◌-◌, ◌≤◌, ◌++◌, List, length, take, replicate, Option, Some, None, true, if◌then◌else◌}
use Rattle.std.proofs.Common.{sym, ap, ◌∙◌, arith, length-take}
use Rattle.tl_text.specs.Names.{is_name}
use Rattle.tl_text.specs.declared.name.Name.TheInside.{Inside}

abbrev pub name_text : Inside → List ℕ
name_text n = take n.len n.bytes

-- 16 bytes: a name, and zeros after it
pub record IsPadded (n : Inside) : Type 0 where
  pub short : n.len ≤ 16
  pub padded : n.bytes ≡ take n.len n.bytes ++ replicate (16 - n.len) 0
  pub whole : length n.bytes ≡ 16
  pub named : is_name (take n.len n.bytes) ≡ true

abbrev pub padded : List ℕ → Inside
padded text = record { bytes = text ++ replicate (16 - length text) 0; len = length text }

-- the name that a word is
unfoldable pub name_at : List ℕ → Option (List ℕ)
name_at word = if is_name word then Some word else None

pub padded_again : (n : Inside) → IsPadded n → padded (name_text n) ≡ n
padded_again n h =
    let len : length (take n.len n.bytes) ≡ n.len = omega (arith, length-take n.len n.bytes, h.short, h.whole) in
    let made : List ℕ → ℕ → Inside = λ bytes count. record { bytes = bytes; len = count } in
    let bytes : take n.len n.bytes ++ replicate (16 - length (take n.len n.bytes)) 0 ≡ n.bytes = rw len (sym h.padded) in
    ap (λ b. made b (length (take n.len n.bytes))) bytes ∙ ap (made n.bytes) len
