-- What is planned for a place with tinies, in its steps, is what its change plans.
use Rattle.std.proofs.Common.{◌≡◌, ◌∙◌, ℕ, ◌+◌, List, [], ◌∷◌, ◌++◌, Option, flat_map, length, map, refl, sym, ap, subst}
use Rattle.std.specs.List.{AllByRecursion}
use Rattle.std.proofs.lemmas.List.{append-nil, map-append, length-map}
use Rattle.target_base.specs.declared.types.ClassId.{ClassId}
use Rattle.mir_func.specs.declared.func.Gap.{Gap}
use Rattle.mir_func.specs.declared.func.Instr.{Instr}
use Rattle.mir_func.specs.Binding.{numbered}
use Rattle.mir_meaning.specs.Places.{Variable, each_once}
use Rattle.spiller.specs.declared.plan.SpillView.{SpillView}
use Rattle.spiller.specs.declared.remat.UseKey.{UseKey}
use Rattle.spiller.specs.declared.roles.IndexedClass.{IndexedClass}
use Rattle.spiller.specs.declared.seats.ReadTiny.{ReadTiny}
use Rattle.spiller.specs.declared.seats.DefinedTiny.{DefinedTiny}
use Rattle.spiller.specs.Reaching.{Facts}
use Rattle.spiller.specs.Setting.{Spilling}
use Rattle.spiller.specs.Rematerialised.{repeated_for, way_reading, ways_read}
use Rattle.spiller.specs.Spilled.{OwnDefinition, Seats, given, place_change, place_name, seats_from, stored, tied_reload, with_tinies}
use Rattle.spiller.specs.Views.{Planned, gap_before, own_setting, spilling_of, way_of, ways_of}
use Rattle.spiller.specs.Planned.{own_edits, with_change}
use Rattle.spiller.specs.Additions.{both, definitions_given, edited, own_definitions, own_uses, put_into, ranges_made, tied_reloads, ways_given, with_addition}
use Rattle.spiller.specs.Seating.{IsGiven, defined_tiny, placed_edits, read_tiny, stored_tiny}
use Rattle.spiller.specs.Placing.{IsPlainForm, KnownPlace, LiveAlike}
use Rattle.spiller.proofs.Added.{then-added}
use Rattle.spiller.proofs.OwnUses.{ways-are}
use Rattle.spiller.proofs.TiedUses.{tied-are}
use Rattle.spiller.proofs.Placed.{all-given, definitions-are, edits-are, none-anew, stores-are, ways-kept}
use Rattle.spiller.proofs.Changes.{assembled}
use Rattle.spiller.proofs.Known.{IsDefinedIn, all-defined}
use Rattle.spiller.proofs.Steps.{length-numbered}

-- the tinies of ways and of definitions, each with the name of the place

named-ways : (at : ℕ) (ps : List (ℕ × Variable)) → map {B = Option ClassId × ℕ} (λ (k : Option ClassId). (k, at)) (map (λ p. p.1.class) ps) ≡ map {B = Option ClassId × ℕ} (λ p. (p.1.class, at)) ps
named-ways at [] = refl
named-ways at (p ∷ ps) = ap (λ zs. (p.1.class, at) ∷ zs) (named-ways at ps)

named-definitions : (at : ℕ) (ps : List (ℕ × OwnDefinition)) → map {B = Option ClassId × ℕ} (λ (k : Option ClassId). (k, at)) (map (λ p. p.1.class) ps) ≡ map {B = Option ClassId × ℕ} (λ p. (p.1.class, at)) ps
named-definitions at [] = refl
named-definitions at (p ∷ ps) = ap (λ zs. (p.1.class, at) ∷ zs) (named-definitions at ps)

-- the uses that are tied to definitions of a place
tied-all : (s u : Spilling) (ds : List (ℕ × OwnDefinition)) → ((p : ℕ × OwnDefinition) → tied_reloads s p ≡ tied_reloads u p) → AllByRecursion (IsDefinedIn IsPlainForm) ds → flat_map (tied_reload s) ds ≡ flat_map (tied_reloads u) ds
tied-all s u [] e h = refl
tied-all s u (d ∷ ds) e h = λ k. (tied-are s d h.0.1 h.0.0 h.0.2 ∙ e d) k ++ tied-all s u ds e h.1 k

weaker : {X : Type 0} (P Q : X → Type 0) (xs : List X) → ((x : X) → P x → Q x) → AllByRecursion P xs → AllByRecursion Q xs
weaker P Q [] f h = tt
weaker P Q (x ∷ xs) f h = (f x h.0, weaker P Q xs f h.1)

module _ (view : SpillView) (facts : Facts) (answer : UseKey → Option ℕ) (is : List Instr) (last : ℕ) (gap : Gap) (k : KnownPlace view facts answer is last gap) where
  abbrev s : Spilling
  s = spilling_of view view.slot facts

  abbrev u : Spilling
  u = own_setting view

  abbrev at : ℕ
  at = place_name is

  abbrev before : Gap
  before = gap_before view at

  abbrev sources : Variable → Option Instr
  sources x = repeated_for s (way_reading s is x)

  module _ (p0 p1 p2 p3 p4 : Planned) (ways : List IndexedClass) (reads : List ReadTiny) (defs : List DefinedTiny)
      (found : map (way_of view.v) ways ≡ each_once [] (flat_map (own_uses view.target.now view.live.now.func view.v) is))
      (kept : reads ≡ map read_tiny (numbered p0.next_range (map (way_of view.v) ways)))
      (one : (sources : Variable → Option Instr) → AllByRecursion (IsGiven view.live.now.func answer at sources) (map (way_of view.v) ways) → p1 ≡ with_addition (ways_given u before at sources (numbered p0.next_range (map (way_of view.v) ways))) p0)
      (made : defs ≡ map defined_tiny (numbered p1.next_range (flat_map (own_definitions u) is)))
      (two : p2 ≡ with_addition (definitions_given u before at (numbered p1.next_range (flat_map (own_definitions u) is))) p1)
      (three : p3 ≡ with_addition (edited (flat_map (placed_edits u reads defs) is)) p2)
      (four : p4 ≡ with_addition (put_into u gap (flat_map (stored_tiny u) defs)) p3)
    where
      abbrev n : ℕ
      n = p0.next_range

      abbrev x : Seats
      x = seats_from s n is

      are : map (way_of view.v) ways ≡ ways_read s is
      are = found ∙ sym (ways-are s is k.forms)

      one-is : p1 ≡ with_addition (ways_given u before at sources x.ways) p0
      one-is =
          one sources (subst (AllByRecursion (IsGiven view.live.now.func answer at sources)) (sym are) k.given)
          ∙ ap (λ ws. with_addition (ways_given u before at sources (numbered n ws)) p0) are

      next : p1.next_range ≡ n + length (ways_read s is)
      next = ap (λ (p : Planned). p.next_range) one-is ∙ ap (λ m. n + m) (ap length (append-nil (map (λ (p : ℕ × Variable). (p.1.class, at)) x.ways)) ∙ (length-map x.ways (λ (p : ℕ × Variable). (p.1.class, at)) ∙ length-numbered n (ways_read s is)))

      definitions : numbered p1.next_range (flat_map (own_definitions u) is) ≡ x.definitions
      definitions = (λ j. numbered (next j) (flat_map (own_definitions u) is)) ∙ ap (numbered (n + length (ways_read s is))) (sym (definitions-are u.facts s is))

      defs-are : defs ≡ map defined_tiny x.definitions
      defs-are = made ∙ ap (map defined_tiny) definitions

      reads-are : ways_of view.v reads ≡ x.ways
      reads-are = ap (ways_of view.v) kept ∙ (ways-kept view.v n ways ∙ ap (numbered n) are)

      forms : AllByRecursion (IsDefinedIn IsPlainForm) x.definitions
      forms = all-defined s IsPlainForm (n + length (ways_read s is)) is k.forms

      lives : AllByRecursion (λ (p : ℕ × OwnDefinition). LiveAlike facts u.facts p.1.by) x.definitions
      lives = weaker (IsDefinedIn (LiveAlike facts u.facts)) (λ (p : ℕ × OwnDefinition). LiveAlike facts u.facts p.1.by) x.definitions (λ p h. h.0) (all-defined s (LiveAlike facts u.facts) (n + length (ways_read s is)) is k.live)

      abbrev ks : List (Option ClassId × ℕ)
      ks = map (λ p. (p.1.class, at)) x.ways

      abbrev js : List (Option ClassId × ℕ)
      js = map (λ p. (p.1.class, at)) x.definitions

      first-is : ways_given u before at sources x.ways ≡ both (ranges_made ks) (put_into s before (map (given s is) x.ways))
      first-is = ap (λ gs. both (ranges_made ks) (put_into s before gs)) (sym (all-given u.facts s is x.ways))

      second-is : definitions_given u before at x.definitions ≡ both (ranges_made js) (put_into s before (flat_map (tied_reload s) x.definitions))
      second-is = ap (λ ts. both (ranges_made js) (put_into s before ts)) (sym (tied-all s u x.definitions (λ p. refl) forms))

      third-is : flat_map (placed_edits u reads defs) is ≡ own_edits s is (map (with_tinies s x) is)
      third-is = ap (λ ds. flat_map (placed_edits u reads ds) is) defs-are ∙ sym (edits-are u.facts s x reads reads-are is)

      fourth-is : put_into u gap (flat_map (stored_tiny u) defs) ≡ put_into s gap (flat_map (stored s) x.definitions)
      fourth-is = ap (λ ss. put_into s gap ss) (ap (λ ds. flat_map (stored_tiny u) ds) defs-are ∙ sym (stores-are u.facts s x.definitions lives))

      steps : p4 ≡ with_addition (both (both (both (both (ranges_made ks) (put_into s before (map (given s is) x.ways))) (both (ranges_made js) (put_into s before (flat_map (tied_reload s) x.definitions)))) (edited (own_edits s is (map (with_tinies s x) is)))) (put_into s gap (flat_map (stored s) x.definitions))) p0
      steps =
          let a = one-is ∙ ap (λ w. with_addition w p0) first-is in
          let b = two ∙ (ap (λ ds. with_addition (definitions_given u before at ds) p1) definitions ∙ ap (λ w. with_addition w p1) second-is) in
          let c = three ∙ ap (λ es. with_addition (edited es) p2) third-is in
          let d = four ∙ ap (λ w. with_addition w p3) fourth-is in
          let ab = then-added _ _ p0 p1 p2 a b in
          let abc = then-added _ _ p0 p2 p3 ab c in
          then-added _ _ p0 p3 p4 abc d

      pub place-planned : p4 ≡ with_change s before gap is (place_change s n is) p0
      place-planned =
          steps
          ∙ (sym (assembled s before gap is (map (with_tinies s x) is) p0 ks js (map (given s is) x.ways) (flat_map (tied_reload s) x.definitions) (flat_map (stored s) x.definitions) (own_edits s is (map (with_tinies s x) is)) refl (none-anew s x is))
          ∙ ap (λ zs. with_change s before gap is (record { tinies = zs; before = map (given s is) x.ways ++ flat_map (tied_reload s) x.definitions; own = map (with_tinies s x) is; behind = flat_map (stored s) x.definitions }) p0) (sym tinies-are))
        where
          tinies-are : map {B = Option ClassId × ℕ} (λ k. (k, at)) (map (λ p. p.1.class) x.ways ++ map (λ p. p.1.class) x.definitions) ≡ ks ++ js
          tinies-are = map-append {B = Option ClassId × ℕ} (λ (k : Option ClassId). (k, at)) (map (λ p. p.1.class) x.ways) (map (λ p. p.1.class) x.definitions) ∙ (λ j. named-ways at x.ways j ++ named-definitions at x.definitions j)

-- the same of a place of one instruction
pub single-planned : (view : SpillView) (facts : Facts) (answer : UseKey → Option ℕ) (i : Instr) (last : ℕ) (gap : Gap) → KnownPlace view facts answer (i ∷ []) last gap → (p0 p1 p2 p3 p4 : Planned) (ways : List IndexedClass) (reads : List ReadTiny) (defs : List DefinedTiny)
    → map (way_of view.v) ways ≡ each_once [] (own_uses view.target.now view.live.now.func view.v i)
    → reads ≡ map read_tiny (numbered p0.next_range (map (way_of view.v) ways))
    → ((sources : Variable → Option Instr) → AllByRecursion (IsGiven view.live.now.func answer i.id sources) (map (way_of view.v) ways) → p1 ≡ with_addition (ways_given (own_setting view) (gap_before view i.id) i.id sources (numbered p0.next_range (map (way_of view.v) ways))) p0)
    → defs ≡ map defined_tiny (numbered p1.next_range (own_definitions (own_setting view) i))
    → p2 ≡ with_addition (definitions_given (own_setting view) (gap_before view i.id) i.id (numbered p1.next_range (own_definitions (own_setting view) i))) p1
    → p3 ≡ with_addition (edited (placed_edits (own_setting view) reads defs i)) p2
    → p4 ≡ with_addition (put_into (own_setting view) gap (flat_map (stored_tiny (own_setting view)) defs)) p3
    → p4 ≡ with_change (spilling_of view view.slot facts) (gap_before view i.id) gap (i ∷ []) (place_change (spilling_of view view.slot facts) p0.next_range (i ∷ [])) p0
single-planned view facts answer i last gap k p0 p1 p2 p3 p4 ways reads defs found kept one made two three four =
    let u = own_setting view in
    let uses = sym (append-nil (own_uses view.target.now view.live.now.func view.v i)) in
    let ds = sym (append-nil (own_definitions u i)) in
    place-planned view facts answer (i ∷ []) last gap k p0 p1 p2 p3 p4 ways reads defs
    (found ∙ ap (each_once []) uses) kept one
    (made ∙ ap (λ xs. map defined_tiny (numbered p1.next_range xs)) ds)
    (two ∙ ap (λ xs. with_addition (definitions_given u (gap_before view i.id) i.id (numbered p1.next_range xs)) p1) ds)
    (three ∙ ap (λ es. with_addition (edited es) p2) (sym (append-nil (placed_edits u reads defs i))))
    four

-- the same of instructions whose place has this name
pub named-planned : (view : SpillView) (facts : Facts) (answer : UseKey → Option ℕ) (is : List Instr) (last : ℕ) (gap : Gap) → KnownPlace view facts answer is last gap → (name : ℕ) → name ≡ place_name is → (p0 p1 p2 p3 p4 : Planned) (ways : List IndexedClass) (reads : List ReadTiny) (defs : List DefinedTiny)
    → map (way_of view.v) ways ≡ each_once [] (flat_map (own_uses view.target.now view.live.now.func view.v) is)
    → reads ≡ map read_tiny (numbered p0.next_range (map (way_of view.v) ways))
    → ((sources : Variable → Option Instr) → AllByRecursion (IsGiven view.live.now.func answer name sources) (map (way_of view.v) ways) → p1 ≡ with_addition (ways_given (own_setting view) (gap_before view name) name sources (numbered p0.next_range (map (way_of view.v) ways))) p0)
    → defs ≡ map defined_tiny (numbered p1.next_range (flat_map (own_definitions (own_setting view)) is))
    → p2 ≡ with_addition (definitions_given (own_setting view) (gap_before view name) name (numbered p1.next_range (flat_map (own_definitions (own_setting view)) is))) p1
    → p3 ≡ with_addition (edited (flat_map (placed_edits (own_setting view) reads defs) is)) p2
    → p4 ≡ with_addition (put_into (own_setting view) gap (flat_map (stored_tiny (own_setting view)) defs)) p3
    → p4 ≡ with_change (spilling_of view view.slot facts) (gap_before view (place_name is)) gap is (place_change (spilling_of view view.slot facts) p0.next_range is) p0
named-planned view facts answer is last gap k name named p0 p1 p2 p3 p4 ways reads defs found kept one made two three four =
    let u = own_setting view in
    subst
    (λ a. ((sources : Variable → Option Instr) → AllByRecursion (IsGiven view.live.now.func answer a sources) (map (way_of view.v) ways) → p1 ≡ with_addition (ways_given u (gap_before view a) a sources (numbered p0.next_range (map (way_of view.v) ways))) p0) → p2 ≡ with_addition (definitions_given u (gap_before view a) a (numbered p1.next_range (flat_map (own_definitions u) is))) p1 → p4 ≡ with_change (spilling_of view view.slot facts) (gap_before view (place_name is)) gap is (place_change (spilling_of view view.slot facts) p0.next_range is) p0)
    (sym named) (λ a b. place-planned view facts answer is last gap k p0 p1 p2 p3 p4 ways reads defs found kept a made b three four) one two
