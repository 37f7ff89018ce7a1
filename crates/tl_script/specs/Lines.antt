-- What the line of a command says. Each reading answers None where the words spell nothing.
use Rattle.std.specs.Prelude.{ℕ, ◌-◌, ◌^◌, ◌==◌, Bool, true, false, List, [], ◌∷◌, codes, Option, Some, None, nat_le, if◌then◌else◌}
use Rattle.std.specs.Str.{bytes_eq}
use Rattle.tl_text.specs.Words.{◌>>=◌, word_at}
use Rattle.tl_text.specs.Numbers.{number_at}
use Rattle.tl_tables.specs.declared.Chan.{Chan}
use Rattle.tl_tables.specs.declared.Chan.TheVariants as chan
use Rattle.tl_text.specs.Naming.{name_at}
use Rattle.tl_topology.specs.Regions.{Area}
use Rattle.tl_topology.specs.declared.region.Permits.{Permits}
use Rattle.tl_beats.specs.declared.watch.Class.{Class}
use Rattle.tl_beats.specs.declared.watch.Watch.{Watch}
use Rattle.tl_beats.specs.declared.watch.Watch.TheVariants as watch
use Rattle.tl_script.specs.declared.command.Command.{Command}
use Rattle.tl_script.specs.declared.command.Command.TheVariants as command

-- ---- what a monitor watches

unfoldable pub chan_at : List ℕ → Option Chan
chan_at [] = None
chan_at (b ∷ c ∷ word) = None
chan_at (b ∷ []) = if b == 65 then Some chan.A
    else (if b == 66 then Some chan.B
    else (if b == 67 then Some chan.C
    else (if b == 68 then Some chan.D
    else (if b == 69 then Some chan.E else None))))

-- a channel's word and an opcode's
unfoldable pub class_at : List ℕ → List ℕ → Option Class
class_at channel opcode = do
  c ← chan_at channel
  o ← number_at 10 7 opcode
  Some (record { chan = c; opcode = o })

-- a class and a limit
unfoldable pub budget_at : List ℕ → List ℕ → Option Watch
budget_at link words = do
  channel ← word_at words
  opcode ← word_at channel.1
  class ← class_at channel.0 opcode.0
  limit ← number_at 10 (2 ^ 32 - 1) opcode.1
  Some (watch.Budget link class limit)

-- two classes
unfoldable pub after_at : List ℕ → List ℕ → Option Watch
after_at link words = do
  channel ← word_at words
  opcode ← word_at channel.1
  first ← class_at channel.0 opcode.0
  later ← word_at opcode.1
  second ← class_at later.0 later.1
  Some (watch.After link first second)

unfoldable pub watch_at : List ℕ → Option Watch
watch_at words = do
  kind ← word_at words
  link ← word_at kind.1
  name ← name_at link.0
  if bytes_eq kind.0 (codes "budget") then budget_at name link.1 else (if bytes_eq kind.0 (codes "after") then after_at name link.1 else None)

unfoldable pub attach_at : List ℕ → Option Command
attach_at words = do
  number ← word_at words
  n ← number_at 10 (2 ^ 32 - 1) number.0
  w ← watch_at number.1
  Some (command.Attach n w)

-- ---- regions

-- the letter in its place, or '-'
abbrev pub permit_at : ℕ → ℕ → Option Bool
permit_at letter b = if b == letter then Some true else (if b == 45 then Some false else None)

-- five places: gpahc
unfoldable pub permits_at : List ℕ → Option Permits
permits_at (g ∷ p ∷ a ∷ h ∷ c ∷ []) = do
  get ← permit_at 103 g
  put ← permit_at 112 p
  atomic ← permit_at 97 a
  hint ← permit_at 104 h
  cache ← permit_at 99 c
  Some (record { get = get; put = put; atomic = atomic; hint = hint; cache = cache })
permits_at _ = None

-- the first address is not above the last
abbrev pub area_at : ℕ → ℕ → Permits → Option Area
area_at first last permits = if nat_le first last then Some (record { first = first; last = last; permits = permits }) else None

unfoldable pub region_at : List ℕ → Option Command
region_at words = do
  manager ← word_at words
  m ← name_at manager.0
  number ← word_at manager.1
  n ← number_at 10 255 number.0
  first ← word_at number.1
  f ← number_at 16 (2 ^ 64 - 1) first.0
  last ← word_at first.1
  l ← number_at 16 (2 ^ 64 - 1) last.0
  permits ← permits_at last.1
  area ← area_at f l permits
  Some (command.SetRegion m n area)

unfoldable pub unregion_at : List ℕ → Option Command
unregion_at words = do
  manager ← word_at words
  m ← name_at manager.0
  n ← number_at 10 255 manager.1
  Some (command.RemoveRegion m n)

-- ---- fragments and limits

unfoldable pub withdraw_at : List ℕ → Option Command
withdraw_at words = do
  link ← word_at words
  l ← name_at link.0
  n ← number_at 10 (2 ^ 32 - 1) link.1
  Some (command.Withdraw l n)

unfoldable pub retune_at : List ℕ → Option Command
retune_at words = do
  number ← word_at words
  n ← number_at 10 (2 ^ 32 - 1) number.0
  limit ← number_at 10 (2 ^ 32 - 1) number.1
  Some (command.Retune n limit)

-- ---- the first word, and those after it

-- a command that no bytes follow
unfoldable pub order_at : List ℕ → List ℕ → Option Command
order_at kind words = if bytes_eq kind (codes "withdraw") then withdraw_at words
    else (if bytes_eq kind (codes "clear") then (name_at words >>= λ link. Some (command.Clear link))
    else (if bytes_eq kind (codes "region") then region_at words
    else (if bytes_eq kind (codes "unregion") then unregion_at words
    else (if bytes_eq kind (codes "attach") then attach_at words
    else (if bytes_eq kind (codes "retune") then retune_at words
    else (if bytes_eq kind (codes "detach") then (number_at 10 (2 ^ 32 - 1) words >>= λ n. Some (command.Detach n)) else None))))))
