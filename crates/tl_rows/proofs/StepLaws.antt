-- The openers of a link go on standing for its messages.
use Rattle.std.specs.Prelude.{OnOk}
use Rattle.std.proofs.Common.{Result, Ok, Err, ◌≡◌, ℕ, cond, List, ◌∷◌, Option, ap, subst, ◌∙◌, map}
use Rattle.tl_tables.specs.declared.Op.{Op}
use Rattle.tl_beats.specs.declared.Placed.{Placed}
use Rattle.tl_beats.specs.declared.Request.{Request}
use Rattle.tl_definitions.specs.OpenTables.{Table, touches, if_opens, open_at}
use Rattle.tl_definitions.specs.Messages.{Message, sources, releases, sinks, probes, request_of}
use Rattle.tl_rows.specs.declared.origin.Origin.{Origin}
use Rattle.tl_rows.specs.declared.openers.Openers.{Openers}
use Rattle.tl_rows.specs.Origins.{message, origin_at, placed, last_setter}
use Rattle.tl_rows.specs.Openers.{StandsFor, AreOrdered, source_at, release_at, sink_at, probe_at, setter_at, opened_after, setter_after}
use Rattle.tl_rows.specs.Reasons.{Trail, answered}
use Rattle.tl_rows.specs.Reasons.{acquires, gives_back, grants}
use Rattle.tl_rows.proofs.OpenerLaws.{open_next, request_law}
use Rattle.tl_rows.proofs.FirstLaws.{first_law}

-- ---- one message more

pub record AllSteps (exponent : ℕ) (old new : Openers) (origin : Origin) : Type 0 where
  pub source : (key : ℕ) → source_at new key ≡ opened_after sources origin (source_at old) key
  pub release : (key : ℕ) → release_at new key ≡ opened_after releases origin (release_at old) key
  pub sink : (key : ℕ) → sink_at new key ≡ opened_after sinks origin (sink_at old) key
  pub probe : (key : ℕ) → probe_at new key ≡ opened_after (probes exponent) origin (probe_at old) key
  pub setter : (block : ℕ) → setter_at new block ≡ setter_after exponent origin (setter_at old) block
  pub ordered : AreOrdered new

table_step : (table : Table Message) (before : List Origin) (origin : Origin) (old new : ℕ → Option Origin) → ((key : ℕ) → old key ≡ open_at (placed table) key before)
    → ((key : ℕ) → new key ≡ opened_after table origin old key) → (key : ℕ) → new key ≡ open_at (placed table) key (origin ∷ before)
table_step table before origin old new stands next key =
    next key ∙ ap (λ found. cond (touches (placed table) key origin) (if_opens (placed table) origin) found) (stands key) ∙ open_next table before origin key

pub steps : (exponent : ℕ) (old new : Openers) (before : List Origin) (origin : Origin) → StandsFor exponent old before → AllSteps exponent old new origin → StandsFor exponent new (origin ∷ before)
steps exponent old new before origin stands all =
    let source : (key : ℕ) → source_at new key ≡ open_at (placed sources) key (origin ∷ before) =
    table_step sources before origin (source_at old) (source_at new) (λ key. ap (λ (t : Trail). t.source key) stands.shows) all.source in
    let release : (key : ℕ) → release_at new key ≡ open_at (placed releases) key (origin ∷ before) =
    table_step releases before origin (release_at old) (release_at new) (λ key. ap (λ (t : Trail). t.release key) stands.shows) all.release in
    let sink : (key : ℕ) → sink_at new key ≡ open_at (placed sinks) key (origin ∷ before) =
    table_step sinks before origin (sink_at old) (sink_at new) (λ key. ap (λ (t : Trail). t.sink key) stands.shows) all.sink in
    let probe : (key : ℕ) → probe_at new key ≡ open_at (placed (probes exponent)) key (origin ∷ before) =
    table_step (probes exponent) before origin (probe_at old) (probe_at new) (λ key. ap (λ (t : Trail). t.probe key) stands.shows) all.probe in
    let setter : (block : ℕ) → setter_at new block ≡ last_setter exponent (origin ∷ before) block =
    λ block. all.setter block ∙ ap (λ found. setter_after exponent origin (λ b. found) block) (ap (λ (t : Trail). t.setter block) stands.shows) in
    record {
      ordered = all.ordered;
      shows = λ i. record {
        source = λ key. source key i;
        release = λ key. release key i;
        sink = λ key. sink key i;
        probe = λ key. probe key i;
        setter = λ block. setter block i;
        acquire = λ block. first_law sources (acquires exponent block) (origin ∷ before) new.sources all.ordered.sources source i;
        giving = λ block. first_law releases (gives_back exponent block) (origin ∷ before) new.releases all.ordered.releases release i;
        grant = λ block. first_law sinks (grants exponent block) (origin ∷ before) new.sinks all.ordered.sinks sink i;
      };
    }

-- The same, where the bound is set first and then what is open changes.
module _ (exponent : ℕ) (old mid new : Openers) (before : List Origin) (p : Placed) (o : Op) (request : Option Request) where
  abbrev own : Origin
  own = record { place = p; op = o; request = request }

  abbrev pub IsSet : Type 0
  IsSet = ((block : ℕ) → setter_at mid block ≡ setter_after exponent own (setter_at old) block)
      × ((key : ℕ) → source_at mid key ≡ source_at old key) × ((key : ℕ) → release_at mid key ≡ release_at old key)
      × ((key : ℕ) → sink_at mid key ≡ sink_at old key) × ((key : ℕ) → probe_at mid key ≡ probe_at old key) × AreOrdered mid

  table_over : (table : Table Message) (f g h : ℕ → Option Origin) → ((key : ℕ) → g key ≡ f key) → ((key : ℕ) → h key ≡ opened_after table own g key)
      → (key : ℕ) → h key ≡ opened_after table own f key
  table_over table f g h same next key = next key ∙ ap (λ found. opened_after table own (λ k. found) key) (same key)

  pub taken : {X E : Type 0} (made : Result X E) → StandsFor exponent old before → request ≡ answered (source_at old) (release_at old) o p.beat → IsSet
      → ((block : ℕ) → setter_at new block ≡ setter_at mid block)
      → OnOk made ((key : ℕ) → source_at new key ≡ opened_after sources own (source_at mid) key)
      → OnOk made ((key : ℕ) → release_at new key ≡ opened_after releases own (release_at mid) key)
      → OnOk made ((key : ℕ) → sink_at new key ≡ opened_after sinks own (sink_at mid) key)
      → OnOk made ((key : ℕ) → probe_at new key ≡ opened_after (probes exponent) own (probe_at mid) key)
      → OnOk made (AreOrdered new) → OnOk made (StandsFor exponent new (origin_at before p o ∷ before))
  taken (Err e) stands asked set kept source release sink probe ordered = tt
  taken (Ok x) stands asked set kept source release sink probe ordered =
      let is : request ≡ request_of (map message before) o p.beat =
      asked ∙ ap (λ (t : Trail). answered t.source t.release o p.beat) stands.shows ∙ request_law exponent before o p.beat in
      subst (λ r. StandsFor exponent new (record { place = p; op = o; request = r } ∷ before)) is
      (steps exponent old new before own stands (record {
        source = table_over sources (source_at old) (source_at mid) (source_at new) set.1 source;
        release = table_over releases (release_at old) (release_at mid) (release_at new) set.2 release;
        sink = table_over sinks (sink_at old) (sink_at mid) (sink_at new) set.3 sink;
        probe = table_over (probes exponent) (probe_at old) (probe_at mid) (probe_at new) set.4 probe;
        setter = λ block. kept block ∙ set.0 block;
        ordered = ordered;
      }))
