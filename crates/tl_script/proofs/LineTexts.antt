-- A line is read as the command that it spells, and as no other.
use Rattle.std.proofs.Common.{◌≡◌, ℕ, ◌-◌, ◌^◌, ◌<◌, ◌≤◌, Bool, true, false, cond, leb, List, [], length, Option, Some, None, refl, ap, ◌∙◌, subst, arith}
use Rattle.std.specs.Prelude.{codes}
use Rattle.std.specs.Str.{bytes_eq}
use Rattle.std.proofs.lemmas.Option.{none-some, same_Some}
use Rattle.std.proofs.lemmas.Bool.{le-leb, leb-true}
use Rattle.tl_text.specs.Words.{◌>>=◌, ◌␣◌, word_at}
use Rattle.tl_text.specs.Numbers.{number_at, numeral}
use Rattle.tl_text.specs.Names.{is_name}
use Rattle.tl_text.proofs.Cuts.{is_free, word_again}
use Rattle.tl_text.proofs.Numerals.{bind_some, number_again}
use Rattle.tl_text.proofs.Spelling.{name_free, name_line, decimal_line, number_line, spaced_free, word_step, number_step, field_step, field_again}
use Rattle.tl_text.specs.Naming.{name_at}
use Rattle.tl_topology.specs.Regions.{Area}
use Rattle.tl_topology.proofs.LineLaws.{same_text}
use Rattle.tl_beats.specs.Text.{chan_text}
use Rattle.tl_beats.specs.declared.watch.Class.{Class}
use Rattle.tl_beats.specs.declared.watch.Watch.{Watch}
use Rattle.tl_beats.specs.declared.watch.Watch.TheVariants as watch
use Rattle.tl_script.specs.declared.command.Command.{Command}
use Rattle.tl_script.specs.declared.command.Command.TheVariants as command
use Rattle.tl_script.specs.Commands.{bytes_of}
use Rattle.tl_script.specs.Lines.{budget_at, after_at, watch_at, attach_at, area_at, region_at, unregion_at, withdraw_at, retune_at, order_at}
use Rattle.tl_script.specs.Text.{permits_text, watch_text, line_of, IsWatch, IsArea, IsCommand}
use Rattle.tl_script.proofs.WordTexts.{joined, name_step, name_again, chan_space, chan_line, class_step, class_again, permits_takes, permits_again, permits_line}

-- ---- numbers

small_again : (n : ℕ) → n < 2 ^ 32 → number_at 10 (2 ^ 32 - 1) (numeral 10 n) ≡ Some n
small_again n fits = number_again 10 (2 ^ 32 - 1) n (omega arith) (omega arith) (omega (arith, fits)) (omega arith)

small_word : (n : ℕ) (rest : List ℕ) → n < 2 ^ 32 → word_at (numeral 10 n ␣ rest) ≡ Some (numeral 10 n, rest)
small_word n rest fits = field_again 10 n rest (omega arith) (omega arith) (omega (arith, fits))

small_line : (n : ℕ) → n < 2 ^ 32 → is_free 10 (numeral 10 n) ≡ true
small_line n fits = decimal_line n (omega (arith, fits))

name_word : (name rest : List ℕ) → is_name name ≡ true → word_at (name ␣ rest) ≡ Some (name, rest)
name_word name rest is = word_again name rest (name_free 32 name (omega arith) is)

-- ---- what a monitor watches

record Watches (kind link words : List ℕ) (w : Watch) : Type 0 where
  spelled : kind ␣ link ␣ words ≡ watch_text w
  lawful : IsWatch w

budget_takes : (link words : List ℕ) (w : Watch) → is_name link ≡ true → budget_at link words ≡ Some w → Watches (codes "budget") link words w
unfolding budget_at watch_text
budget_takes link words w is e =
    let P : Type 0 = Watches (codes "budget") link words w in
    word_step words _ w P e (λ channel r1 e1 k1.
    word_step r1 _ w P k1 (λ opcode r2 e2 k2.
    class_step channel opcode _ w P k2 (λ class class_is k3.
    number_step 10 (2 ^ 32 - 1) r2 _ w P (omega arith) (omega arith) k3 (λ limit limit_is fits k4.
    let text : words ≡ chan_text class.chan ␣ numeral 10 class.opcode ␣ numeral 10 limit = joined _ _ _ _ _ e1 class_is.channel_is (joined _ _ _ _ _ e2 class_is.opcode_is limit_is) in
    subst (λ (x : Watch). Watches (codes "budget") link words x) (same_Some (watch.Budget link class limit) w k4)
    (record { spelled = ap (λ (l : List ℕ). codes "budget" ␣ link ␣ l) text; lawful = (is, class_is.small, omega (arith, fits)) })))))

after_takes : (link words : List ℕ) (w : Watch) → is_name link ≡ true → after_at link words ≡ Some w → Watches (codes "after") link words w
unfolding after_at watch_text
after_takes link words w is e =
    let P : Type 0 = Watches (codes "after") link words w in
    word_step words _ w P e (λ channel r1 e1 k1.
    word_step r1 _ w P k1 (λ opcode r2 e2 k2.
    class_step channel opcode _ w P k2 (λ first first_is k3.
    word_step r2 _ w P k3 (λ later r3 e3 k4.
    class_step later r3 _ w P k4 (λ second second_is k5.
    let end : r2 ≡ chan_text second.chan ␣ numeral 10 second.opcode = joined _ _ _ _ _ e3 second_is.channel_is second_is.opcode_is in
    let text : words ≡ chan_text first.chan ␣ numeral 10 first.opcode ␣ chan_text second.chan ␣ numeral 10 second.opcode = joined _ _ _ _ _ e1 first_is.channel_is (joined _ _ _ _ _ e2 first_is.opcode_is end) in
    subst (λ (x : Watch). Watches (codes "after") link words x) (same_Some (watch.After link first second) w k5)
    (record { spelled = ap (λ (l : List ℕ). codes "after" ␣ link ␣ l) text; lawful = (is, first_is.small, second_is.small) }))))))

kind_takes : (s t : Bool) (kind link words : List ℕ) (w : Watch) → is_name link ≡ true → (s ≡ true → kind ≡ codes "budget") → (t ≡ true → kind ≡ codes "after")
    → cond s (budget_at link words) (cond t (after_at link words) None) ≡ Some w → Watches kind link words w
kind_takes true t kind link words w is p q e = rw (p refl) (budget_takes link words w is e)
kind_takes false true kind link words w is p q e = rw (q refl) (after_takes link words w is e)
kind_takes false false kind link words w is p q e = absurd (none-some w e)

record IsSpelledWatch (words : List ℕ) (w : Watch) : Type 0 where
  spelled : words ≡ watch_text w
  lawful : IsWatch w

watch_takes : (words : List ℕ) (w : Watch) → watch_at words ≡ Some w → IsSpelledWatch words w
unfolding watch_at
watch_takes words w e =
    let P : Type 0 = IsSpelledWatch words w in
    word_step words _ w P e (λ kind r1 e1 k1.
    word_step r1 _ w P k1 (λ link r2 e2 k2.
    name_step link _ w P k2 (λ is k3.
    let law = kind_takes (bytes_eq kind (codes "budget")) (bytes_eq kind (codes "after")) kind link r2 w is (λ h. same_text kind (codes "budget") h) (λ h. same_text kind (codes "after") h) k3 in
    record { spelled = joined _ _ _ _ _ e1 refl e2 ∙ law.spelled; lawful = law.lawful })))

budget_again : (link : List ℕ) (class : Class) (limit : ℕ) → class.opcode ≤ 7 → limit < 2 ^ 32 → budget_at link (chan_text class.chan ␣ numeral 10 class.opcode ␣ numeral 10 limit) ≡ Some (watch.Budget link class limit)
unfolding budget_at
budget_again link class limit small fits =
    let w1 = word_again (chan_text class.chan) (numeral 10 class.opcode ␣ numeral 10 limit) (chan_space class.chan) in
    let w2 = small_word class.opcode (numeral 10 limit) (omega (arith, small)) in
    rw (w1, w2, class_again class small, small_again limit fits) refl

after_again : (link : List ℕ) (first second : Class) → first.opcode ≤ 7 → second.opcode ≤ 7
    → after_at link (chan_text first.chan ␣ numeral 10 first.opcode ␣ chan_text second.chan ␣ numeral 10 second.opcode) ≡ Some (watch.After link first second)
unfolding after_at
after_again link first second p q =
    let w1 = word_again (chan_text first.chan) (numeral 10 first.opcode ␣ chan_text second.chan ␣ numeral 10 second.opcode) (chan_space first.chan) in
    let w2 = small_word first.opcode (chan_text second.chan ␣ numeral 10 second.opcode) (omega (arith, p)) in
    let w3 = word_again (chan_text second.chan) (numeral 10 second.opcode) (chan_space second.chan) in
    rw (w1, w2, class_again first p, w3, class_again second q) refl

watch_again : (w : Watch) → IsWatch w → watch_at (watch_text w) ≡ Some w
unfolding watch_at watch_text
watch_again (watch.Budget link class limit) is =
    let text : List ℕ = chan_text class.chan ␣ numeral 10 class.opcode ␣ numeral 10 limit in
    rw (word_again (codes "budget") (link ␣ text) refl, name_word link text is.0, name_again link is.0) (budget_again link class limit is.1 is.2)
watch_again (watch.After link first second) is =
    let text : List ℕ = chan_text first.chan ␣ numeral 10 first.opcode ␣ chan_text second.chan ␣ numeral 10 second.opcode in
    rw (word_again (codes "after") (link ␣ text) refl, name_word link text is.0, name_again link is.0) (after_again link first second is.1 is.2)

class_line : (class : Class) (rest : List ℕ) → class.opcode ≤ 7 → is_free 10 rest ≡ true → is_free 10 (chan_text class.chan ␣ numeral 10 class.opcode ␣ rest) ≡ true
class_line class rest small free =
    spaced_free (chan_text class.chan) (numeral 10 class.opcode ␣ rest) (chan_line class.chan) (spaced_free (numeral 10 class.opcode) rest (small_line class.opcode (omega (arith, small))) free)

watch_line : (w : Watch) → IsWatch w → is_free 10 (watch_text w) ≡ true
unfolding watch_text
watch_line (watch.Budget link class limit) is =
    let class_part : List ℕ = chan_text class.chan ␣ numeral 10 class.opcode ␣ numeral 10 limit in
    spaced_free (codes "budget") (link ␣ class_part) refl (spaced_free link class_part (name_line link is.0) (class_line class (numeral 10 limit) is.1 (small_line limit is.2)))
watch_line (watch.After link first second) is =
    let last : List ℕ = chan_text second.chan ␣ numeral 10 second.opcode in
    let both : List ℕ = chan_text first.chan ␣ numeral 10 first.opcode ␣ last in
    let last_free : is_free 10 last ≡ true = spaced_free (chan_text second.chan) (numeral 10 second.opcode) (chan_line second.chan) (small_line second.opcode (omega (arith, is.2))) in
    spaced_free (codes "after") (link ␣ both) refl (spaced_free link both (name_line link is.0) (class_line first last is.1 last_free))

-- ---- a command that no bytes follow

pub record Orders (kind words : List ℕ) (c : Command) : Type 0 where
  pub spelled : kind ␣ words ≡ line_of c
  pub lawful : IsCommand c
  pub bare : bytes_of c ≡ []

attach_takes : (words : List ℕ) (c : Command) → attach_at words ≡ Some c → Orders (codes "attach") words c
unfolding attach_at line_of IsCommand
attach_takes words c e =
    let P : Type 0 = Orders (codes "attach") words c in
    field_step 10 (2 ^ 32 - 1) words _ c P (omega arith) (omega arith) e (λ w1 r1 n e1 fits k1.
    let found = bind_some (watch_at r1) _ c k1 in
    let law = watch_takes r1 found.0 found.1 in
    let text : words ≡ numeral 10 n ␣ watch_text found.0 = joined _ _ _ _ _ e1 refl law.spelled in
    subst (λ (x : Command). Orders (codes "attach") words x) (same_Some (command.Attach n found.0) c found.2)
    (record { spelled = ap (λ (l : List ℕ). codes "attach" ␣ l) text; lawful = (omega (arith, fits), law.lawful); bare = refl }))

area_from : (t : Bool) (area a : Area) → cond t (Some area) None ≡ Some a → (t ≡ true) × (area ≡ a)
area_from true area a e = (refl, same_Some area a e)
area_from false area a e = absurd (none-some a e)

region_takes : (words : List ℕ) (c : Command) → region_at words ≡ Some c → Orders (codes "region") words c
unfolding region_at line_of IsCommand
region_takes words c e =
    let P : Type 0 = Orders (codes "region") words c in
    word_step words _ c P e (λ manager r1 e1 k1.
    name_step manager _ c P k1 (λ is k2.
    field_step 10 255 r1 _ c P (omega arith) (omega arith) k2 (λ w2 r2 n e2 n_fits k3.
    field_step 16 (2 ^ 64 - 1) r2 _ c P (omega arith) (omega arith) k3 (λ w3 r3 f e3 f_fits k4.
    field_step 16 (2 ^ 64 - 1) r3 _ c P (omega arith) (omega arith) k4 (λ w4 r4 l e4 l_fits k5.
    let permits = bind_some _ _ c k5 in
    let area = bind_some (area_at f l permits.0) _ c permits.2 in
    let made : Area = record { first = f; last = l; permits = permits.0 } in
    let is_area = area_from (leb f l) made area.0 area.1 in
    let end : r3 ≡ numeral 16 l ␣ permits_text permits.0 = joined _ _ _ _ _ e4 refl (permits_takes r4 permits.0 permits.1) in
    let text : words ≡ manager ␣ numeral 10 n ␣ numeral 16 f ␣ numeral 16 l ␣ permits_text permits.0 = joined _ _ _ _ _ e1 refl (joined _ _ _ _ _ e2 refl (joined _ _ _ _ _ e3 refl end)) in
    let whole : Orders (codes "region") words (command.SetRegion manager n made) = record {
      spelled = ap (λ (l : List ℕ). codes "region" ␣ l) text;
      lawful = (is, omega (arith, n_fits), record { order = leb-true f l is_area.0; last = omega (arith, l_fits) });
      bare = refl;
    } in
    let same : command.SetRegion manager n made ≡ c = ap (λ (a : Area). command.SetRegion manager n a) is_area.1 ∙ same_Some (command.SetRegion manager n area.0) c area.2 in
    subst (λ (x : Command). Orders (codes "region") words x) same whole)))))

unregion_takes : (words : List ℕ) (c : Command) → unregion_at words ≡ Some c → Orders (codes "unregion") words c
unfolding unregion_at line_of IsCommand
unregion_takes words c e =
    let P : Type 0 = Orders (codes "unregion") words c in
    word_step words _ c P e (λ manager r1 e1 k1.
    name_step manager _ c P k1 (λ is k2.
    number_step 10 255 r1 _ c P (omega arith) (omega arith) k2 (λ n n_is fits k3.
    let text : words ≡ manager ␣ numeral 10 n = joined _ _ _ _ _ e1 refl n_is in
    subst (λ (x : Command). Orders (codes "unregion") words x) (same_Some (command.RemoveRegion manager n) c k3)
    (record { spelled = ap (λ (l : List ℕ). codes "unregion" ␣ l) text; lawful = (is, omega (arith, fits)); bare = refl }))))

withdraw_takes : (words : List ℕ) (c : Command) → withdraw_at words ≡ Some c → Orders (codes "withdraw") words c
unfolding withdraw_at line_of IsCommand
withdraw_takes words c e =
    let P : Type 0 = Orders (codes "withdraw") words c in
    word_step words _ c P e (λ link r1 e1 k1.
    name_step link _ c P k1 (λ is k2.
    number_step 10 (2 ^ 32 - 1) r1 _ c P (omega arith) (omega arith) k2 (λ n n_is fits k3.
    let text : words ≡ link ␣ numeral 10 n = joined _ _ _ _ _ e1 refl n_is in
    subst (λ (x : Command). Orders (codes "withdraw") words x) (same_Some (command.Withdraw link n) c k3)
    (record { spelled = ap (λ (l : List ℕ). codes "withdraw" ␣ l) text; lawful = (is, omega (arith, fits)); bare = refl }))))

retune_takes : (words : List ℕ) (c : Command) → retune_at words ≡ Some c → Orders (codes "retune") words c
unfolding retune_at line_of IsCommand
retune_takes words c e =
    let P : Type 0 = Orders (codes "retune") words c in
    field_step 10 (2 ^ 32 - 1) words _ c P (omega arith) (omega arith) e (λ w1 r1 n e1 n_fits k1.
    number_step 10 (2 ^ 32 - 1) r1 _ c P (omega arith) (omega arith) k1 (λ limit limit_is fits k2.
    let text : words ≡ numeral 10 n ␣ numeral 10 limit = joined _ _ _ _ _ e1 refl limit_is in
    subst (λ (x : Command). Orders (codes "retune") words x) (same_Some (command.Retune n limit) c k2)
    (record { spelled = ap (λ (l : List ℕ). codes "retune" ␣ l) text; lawful = (omega (arith, n_fits), omega (arith, fits)); bare = refl })))

clear_takes : (words : List ℕ) (c : Command) → (name_at words >>= λ link. Some (command.Clear link)) ≡ Some c → Orders (codes "clear") words c
unfolding line_of IsCommand
clear_takes words c e =
    name_step words _ c (Orders (codes "clear") words c) e (λ is k.
    subst (λ (x : Command). Orders (codes "clear") words x) (same_Some (command.Clear words) c k) (record { spelled = refl; lawful = is; bare = refl }))

detach_takes : (words : List ℕ) (c : Command) → (number_at 10 (2 ^ 32 - 1) words >>= λ n. Some (command.Detach n)) ≡ Some c → Orders (codes "detach") words c
unfolding line_of IsCommand
detach_takes words c e =
    number_step 10 (2 ^ 32 - 1) words _ c (Orders (codes "detach") words c) (omega arith) (omega arith) e (λ n n_is fits k.
    subst (λ (x : Command). Orders (codes "detach") words x) (same_Some (command.Detach n) c k) (record { spelled = ap (λ (l : List ℕ). codes "detach" ␣ l) n_is; lawful = omega (arith, fits); bare = refl }))

abbrev by_tests : Bool → Bool → Bool → Bool → Bool → Bool → Bool → List ℕ → Option Command
by_tests a b c d e f g words =
    cond a (withdraw_at words) (cond b (name_at words >>= λ link. Some (command.Clear link)) (cond c (region_at words) (cond d (unregion_at words)
    (cond e (attach_at words) (cond f (retune_at words) (cond g (number_at 10 (2 ^ 32 - 1) words >>= λ n. Some (command.Detach n)) None))))))

-- which word the first is
record Names (kind : List ℕ) (a b c d e f g : Bool) : Type 0 where
  withdraw : a ≡ true → kind ≡ codes "withdraw"
  clear : b ≡ true → kind ≡ codes "clear"
  region : c ≡ true → kind ≡ codes "region"
  unregion : d ≡ true → kind ≡ codes "unregion"
  attach : e ≡ true → kind ≡ codes "attach"
  retune : f ≡ true → kind ≡ codes "retune"
  detach : g ≡ true → kind ≡ codes "detach"

tests_take : (a b c d e f g : Bool) (kind words : List ℕ) (o : Command) → Names kind a b c d e f g → by_tests a b c d e f g words ≡ Some o → Orders kind words o
tests_take true b c d e f g kind words o is k = rw (is.withdraw refl) (withdraw_takes words o k)
tests_take false true c d e f g kind words o is k = rw (is.clear refl) (clear_takes words o k)
tests_take false false true d e f g kind words o is k = rw (is.region refl) (region_takes words o k)
tests_take false false false true e f g kind words o is k = rw (is.unregion refl) (unregion_takes words o k)
tests_take false false false false true f g kind words o is k = rw (is.attach refl) (attach_takes words o k)
tests_take false false false false false true g kind words o is k = rw (is.retune refl) (retune_takes words o k)
tests_take false false false false false false true kind words o is k = rw (is.detach refl) (detach_takes words o k)
tests_take false false false false false false false kind words o is k = absurd (none-some o k)

pub order_takes : (kind words : List ℕ) (o : Command) → order_at kind words ≡ Some o → Orders kind words o
unfolding order_at
order_takes kind words o e =
    tests_take (bytes_eq kind (codes "withdraw")) (bytes_eq kind (codes "clear")) (bytes_eq kind (codes "region")) (bytes_eq kind (codes "unregion")) (bytes_eq kind (codes "attach")) (bytes_eq kind (codes "retune")) (bytes_eq kind (codes "detach")) kind words o
    (record {
      withdraw = λ h. same_text kind (codes "withdraw") h;
      clear = λ h. same_text kind (codes "clear") h;
      region = λ h. same_text kind (codes "region") h;
      unregion = λ h. same_text kind (codes "unregion") h;
      attach = λ h. same_text kind (codes "attach") h;
      retune = λ h. same_text kind (codes "retune") h;
      detach = λ h. same_text kind (codes "detach") h;
    }) e

-- ---- each spelling is read

pub withdraw_again : (link : List ℕ) (number : ℕ) → is_name link ≡ true → number < 2 ^ 32 → order_at (codes "withdraw") (link ␣ numeral 10 number) ≡ Some (command.Withdraw link number)
unfolding order_at withdraw_at
withdraw_again link number is fits = rw (name_word link (numeral 10 number) is, name_again link is, small_again number fits) refl

pub clear_again : (link : List ℕ) → is_name link ≡ true → order_at (codes "clear") link ≡ Some (command.Clear link)
unfolding order_at
clear_again link is = rw (name_again link is) refl

pub region_again : (manager : List ℕ) (number : ℕ) (area : Area) → is_name manager ≡ true → number < 256 → IsArea area
    → order_at (codes "region") (manager ␣ numeral 10 number ␣ numeral 16 area.first ␣ numeral 16 area.last ␣ permits_text area.permits) ≡ Some (command.SetRegion manager number area)
unfolding order_at region_at
region_again manager number area is fits lawful =
    let first : area.first < 2 ^ 64 = omega (arith, lawful.order, lawful.last) in
    let w1 = name_word manager (numeral 10 number ␣ numeral 16 area.first ␣ numeral 16 area.last ␣ permits_text area.permits) is in
    let w2 = small_word number (numeral 16 area.first ␣ numeral 16 area.last ␣ permits_text area.permits) (omega (arith, fits)) in
    let n2 = number_again 10 255 number (omega arith) (omega arith) (omega (arith, fits)) (omega arith) in
    let w3 = field_again 16 area.first (numeral 16 area.last ␣ permits_text area.permits) (omega arith) (omega arith) first in
    let n3 = number_again 16 (2 ^ 64 - 1) area.first (omega arith) (omega arith) (omega (arith, first)) (omega arith) in
    let w4 = field_again 16 area.last (permits_text area.permits) (omega arith) (omega arith) lawful.last in
    let n4 = number_again 16 (2 ^ 64 - 1) area.last (omega arith) (omega arith) (omega (arith, lawful.last)) (omega arith) in
    rw (w1, name_again manager is, w2, n2, w3, n3, w4, n4, permits_again area.permits, le-leb area.first area.last lawful.order) refl

pub unregion_again : (manager : List ℕ) (number : ℕ) → is_name manager ≡ true → number < 256 → order_at (codes "unregion") (manager ␣ numeral 10 number) ≡ Some (command.RemoveRegion manager number)
unfolding order_at unregion_at
unregion_again manager number is fits =
    rw (name_word manager (numeral 10 number) is, name_again manager is, number_again 10 255 number (omega arith) (omega arith) (omega (arith, fits)) (omega arith)) refl

pub attach_again : (number : ℕ) (w : Watch) → number < 2 ^ 32 → IsWatch w → order_at (codes "attach") (numeral 10 number ␣ watch_text w) ≡ Some (command.Attach number w)
unfolding order_at attach_at
attach_again number w fits is = rw (small_word number (watch_text w) fits, small_again number fits, watch_again w is) refl

pub retune_again : (number limit : ℕ) → number < 2 ^ 32 → limit < 2 ^ 32 → order_at (codes "retune") (numeral 10 number ␣ numeral 10 limit) ≡ Some (command.Retune number limit)
unfolding order_at retune_at
retune_again number limit n_fits fits = rw (small_word number (numeral 10 limit) n_fits, small_again number n_fits, small_again limit fits) refl

pub detach_again : (number : ℕ) → number < 2 ^ 32 → order_at (codes "detach") (numeral 10 number) ≡ Some (command.Detach number)
unfolding order_at
detach_again number fits = rw (small_again number fits) refl

-- ---- no newline stands in a line

area_line : (area : Area) → IsArea area → is_free 10 (numeral 16 area.first ␣ numeral 16 area.last ␣ permits_text area.permits) ≡ true
area_line area is =
    spaced_free (numeral 16 area.first) (numeral 16 area.last ␣ permits_text area.permits) (number_line 16 area.first (omega arith) (omega arith) (omega (arith, is.order, is.last)))
    (spaced_free (numeral 16 area.last) (permits_text area.permits) (number_line 16 area.last (omega arith) (omega arith) is.last) (permits_line area.permits))

-- a name and a number
named_line : (name : List ℕ) (number : ℕ) → is_name name ≡ true → number < 2 ^ 32 → is_free 10 (name ␣ numeral 10 number) ≡ true
named_line name number is fits = spaced_free name (numeral 10 number) (name_line name is) (small_line number fits)

pub line_free : (c : Command) → IsCommand c → is_free 10 (line_of c) ≡ true
unfolding line_of IsCommand
line_free (command.Add text) is = spaced_free (codes "add") (numeral 10 (length text)) refl (small_line (length text) (omega (arith, is)))
line_free (command.Replace text) is = spaced_free (codes "replace") (numeral 10 (length text)) refl (small_line (length text) (omega (arith, is)))
line_free (command.Withdraw link number) is = spaced_free (codes "withdraw") (link ␣ numeral 10 number) refl (named_line link number is.0 is.1)
line_free (command.Clear link) is = spaced_free (codes "clear") link refl (name_line link is)
line_free (command.SetRegion manager number area) is =
    let addresses : List ℕ = numeral 16 area.first ␣ numeral 16 area.last ␣ permits_text area.permits in
    let behind = spaced_free (numeral 10 number) addresses (small_line number (omega (arith, is.1))) (area_line area is.2) in
    spaced_free (codes "region") (manager ␣ numeral 10 number ␣ addresses) refl (spaced_free manager (numeral 10 number ␣ addresses) (name_line manager is.0) behind)
line_free (command.RemoveRegion manager number) is = spaced_free (codes "unregion") (manager ␣ numeral 10 number) refl (named_line manager number is.0 (omega (arith, is.1)))
line_free (command.Attach number watch) is =
    spaced_free (codes "attach") (numeral 10 number ␣ watch_text watch) refl (spaced_free (numeral 10 number) (watch_text watch) (small_line number is.0) (watch_line watch is.1))
line_free (command.Retune number limit) is =
    spaced_free (codes "retune") (numeral 10 number ␣ numeral 10 limit) refl (spaced_free (numeral 10 number) (numeral 10 limit) (small_line number is.0) (small_line limit is.1))
line_free (command.Detach number) is = spaced_free (codes "detach") (numeral 10 number) refl (small_line number is)
line_free command.Publish is = refl
