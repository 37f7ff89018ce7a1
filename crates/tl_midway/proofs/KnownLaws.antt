-- The state of a link goes on showing what is known of its past.
use Rattle.std.specs.Prelude.{OnOk}
use Rattle.std.proofs.Common.{Result, Ok, Err, ◌≡◌, ℕ, Bool, true, false, cond, Option, Some, None, refl, sym, ap, subst, ◌∙◌}
use Rattle.std.specs.Prelude.{nat_lt}
use Rattle.tl_tables.specs.declared.Op.{Op}
use Rattle.tl_tables.specs.declared.Perm.{Perm}
use Rattle.tl_topology.specs.declared.LinkDecl.{LinkDecl}
use Rattle.tl_beats.specs.declared.Beat.{Beat}
use Rattle.tl_beats.specs.declared.Request.{Request}
use Rattle.tl_definitions.specs.Known.{Known, unknown, known, KnownPast, bare, first_past, known_request, bound_after, known_with}
use Rattle.tl_client_rules.specs.Client.{acquired_block, released_block}
use Rattle.tl_midway.specs.declared.known_link.KnownLink.{KnownLink}
use Rattle.tl_midway.specs.KnownTable.{known_at, known_on}
use Rattle.tl_midway.specs.CountedTable.{entry_known, open_block, IsCounted}
use Rattle.tl_midway.specs.KnownBounds.{may_be, AreBounds}
use Rattle.tl_midway.specs.KnownLink.{first_entry, shown, AreCounted, Shows, known_after, known_next, IsOpened, IsPast}

pub seen : (state : KnownLink) (past : KnownPast) → IsPast state past → shown state ≡ past
seen state past is = λ i. record {
  flow = record {
    source = λ key. is.opened.source key i;
    release = λ key. is.opened.release key i;
    sink = λ key. is.opened.sink key i;
  };
  client = record {
    probe = λ block. is.opened.probe block i;
    bound = λ block held. is.bound block held i;
    granted = λ key. is.opened.granted key i;
  };
}

-- No source has anything known to be open at first.
none_open : (block_of : Request → Option ℕ) (sources source : ℕ) → open_block block_of (first_entry sources source) ≡ None
none_open block_of sources source = elim (nat_lt source sources) as (λ b. open_block block_of (cond b unknown (known None)) ≡ None) [ true ↦ refl | false ↦ refl ]

pub starts : (link : LinkDecl) (exponent : ℕ) (state : KnownLink) → state.exponent ≡ exponent → state.sources ≡ link.sources
    → ((f : Known (Option Request)) (key : ℕ) → entry_known state.requests f key ≡ f) → ((f : Known (Option Request)) (key : ℕ) → entry_known state.releases f key ≡ f)
    → ((f : Known Bool) (key : ℕ) → known_at state.sinks f key ≡ f) → ((f : Known (Option (Option ℕ))) (key : ℕ) → entry_known state.granted f key ≡ f)
    → ((f : Known (Option (Option Perm))) (key : ℕ) → known_on state.probes f key ≡ f) → ((block : ℕ) (held : Perm) → may_be state.bounds block held ≡ true)
    → ((block_of : Request → Option ℕ) (first : ℕ → Known (Option Request)) → ((key : ℕ) → open_block block_of (first key) ≡ None) → IsCounted block_of first state.requests)
    → ((block_of : Request → Option ℕ) (first : ℕ → Known (Option Request)) → ((key : ℕ) → open_block block_of (first key) ≡ None) → IsCounted block_of first state.releases)
    → ((block_of : Option ℕ → Option ℕ) (first : ℕ → Known (Option (Option ℕ))) → ((key : ℕ) → open_block block_of (first key) ≡ None) → IsCounted block_of first state.granted)
    → Shows exponent state (first_past link)
starts link exponent state power sources requests releases sinks granted probes bounds requests_counted releases_counted granted_counted = record {
  exponent = power;
  shows = λ i. record {
    flow = record {
      source = λ key. (requests (first_entry state.sources key) key ∙ ap (λ n. first_entry n key) sources) i;
      release = λ key. (releases (first_entry state.sources key) key ∙ ap (λ n. first_entry n key) sources) i;
      sink = λ key. sinks unknown key i;
    };
    client = record {
      probe = λ block. probes unknown block i;
      bound = λ block held. bounds block held i;
      granted = λ key. granted unknown key i;
    };
  };
  counted = record {
    requests = requests_counted (acquired_block state.exponent) (first_entry state.sources) (none_open (acquired_block state.exponent) state.sources);
    releases = releases_counted (released_block state.exponent) (first_entry state.sources) (none_open (released_block state.exponent) state.sources);
    granted = granted_counted (λ block. block) (λ key. unknown) (λ key. refl);
  };
}

-- The bounds of a state count nothing.
pub counted_with : (old new : KnownLink) → new ≡ record old { bounds = new.bounds } → AreCounted old → AreCounted new
counted_with old new rest was =
    let kept : AreCounted (record old { bounds = new.bounds }) = record { requests = was.requests; releases = was.releases; granted = was.granted } in
    subst AreCounted (sym rest) kept

pub changed : (certain : Bool) (old mid new : KnownLink) (head : Beat) (o : Op) (request : Known (Option Request))
    → request ≡ known_request (shown old).flow (bare o head) → mid ≡ record old { bounds = mid.bounds }
    → AreBounds mid.bounds (bound_after old.exponent certain (bare o head) request (may_be old.bounds)) → new.bounds ≡ mid.bounds
    → IsOpened new (known_after mid.exponent certain request (shown mid) (bare o head)) → IsPast new (known_next certain old (bare o head))
changed certain old mid new head o request is rest set same has =
    let moved : IsOpened new (known_after old.exponent certain request (shown (record old { bounds = mid.bounds })) (bare o head)) =
    subst (λ (s : KnownLink). IsOpened new (known_after s.exponent certain request (shown s) (bare o head))) rest has in
    subst (λ r. IsPast new (known_after old.exponent certain r (shown old) (bare o head))) is
    (record {
      opened = record { source = moved.source; release = moved.release; sink = moved.sink; probe = moved.probe; granted = moved.granted };
      bound = λ block held. ap (λ b. may_be b block held) same ∙ set block held;
    })

pub stepped : {X E : Type 0} (made : Result X E) (exponent : ℕ) (certain : Bool) (old new : KnownLink) (past : KnownPast) (head : Beat) (o : Op) → Shows exponent old past
    → new.exponent ≡ old.exponent
    → OnOk made (IsPast new (known_next certain old (bare o head))) → OnOk made (AreCounted old → AreCounted new) → OnOk made (Shows exponent new (known_with exponent certain past head (Some o)))
stepped (Ok x) exponent certain old new past head o is same next counted = record {
  exponent = same ∙ is.exponent;
  shows = seen new (known_next certain old (bare o head)) next
      ∙ ap (λ (p : KnownPast). known_after old.exponent certain (known_request p.flow (bare o head)) p (bare o head)) is.shows
      ∙ ap (λ e. known_after e certain (known_request past.flow (bare o head)) past (bare o head)) is.exponent;
  counted = counted is.counted;
}
stepped (Err e) exponent certain old new past head o is same next counted = tt
