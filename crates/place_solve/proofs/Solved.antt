-- The first choice of options that keeps apart what must be apart is the first that serves.
use Rattle.std.proofs.Common.{◌≡◌, ◌∙◌, ◌<◌, ℕ, length, List, [], ◌∷◌, ◌++◌, Bool, true, false, cond, not, refl, sym, ap, map}
use Rattle.std.specs.Prelude.{◌&&◌, ◌||◌, filter, flat_map, nat_lt, slice_get, Option, None, Some}
use Rattle.std.specs.List.{list_all, list_any, zip}
use Rattle.std.proofs.lemmas.List.Elements.{filter-append}
use Rattle.target_base.specs.declared.types.Reg.{Reg}
use Rattle.target_base.specs.declared.types.Unit.{Unit as UnitNumber}
use Rattle.target_base.specs.declared.types.ClassId.{ClassId}
use Rattle.target_base.specs.declared.types.Target.{Target}
use Rattle.target_base.specs.Registers.{regs_of, units_of}
use Rattle.target_base.specs.Rules.{regs_of_some}
use Rattle.std.proofs.lemmas.Bool.{lt-ltb, ltb-true}
use Rattle.std.proofs.lemmas.Option.{slice_get_within, get_or_from_slice_get}
use Rattle.target_base.specs.declared.types.RegDesc.{RegDesc}
use Rattle.target_base.specs.Rules.{is_reg_desc}
use Rattle.target_base.specs.Storage.{is_among, is_unreserved, units_in}
use Rattle.target_base.proofs.Sound.{regs_sound}
use Rattle.target_base.proofs.Tests.{first_of_both, second_of_both, each_passes}
use Rattle.meaning.specs.Live.{Among as Member, here, there}
use Rattle.instr_effects.proofs.Members.{member-none}
use Rattle.live_laws.proofs.Effects.Lists.{all-of}
use Rattle.mir_meaning.specs.Places.{Kind as Use, Variable as Need, all_apart, avoids_units, choices, domain, holds_any, is_defining, reaches_back, solutions}
use Rattle.live_lanes.specs.declared.table.Table.{Table}
use Rattle.place_solve.specs.declared.position.PlacePosition.{PlacePosition}
use Rattle.place_solve.specs.declared.variables.Variable.{Variable}
use Rattle.place_solve.specs.Positions.{at_entry, at_exit, entry_of, exit_of, takes_part}
use Rattle.place_solve.specs.Choice.{need_of, use_of, is_free, may_lie, options_in, first, first_apart}

filter_alike : {X : Type 0} (p q : X → Bool) → ((x : X) → p x ≡ q x) → (xs : List X) → filter p xs ≡ filter q xs
filter_alike p q h [] = refl
filter_alike p q h (x ∷ xs) = ap (λ b. cond b (x ∷ filter p xs) (filter p xs)) (h x) ∙ ap (λ ys. cond (q x) (x ∷ ys) ys) (filter_alike p q h xs)

-- two tests, one after the other
pub filter_both : {X : Type 0} (p q : X → Bool) (xs : List X) → filter (λ x. p x && q x) xs ≡ filter q (filter p xs)
filter_both p q [] = refl
filter_both {X} p q (x ∷ xs) = go (p x) (filter_both p q xs)
  where
    go : (b : Bool) → filter (λ y. p y && q y) xs ≡ filter q (filter p xs) → cond (b && q x) (x ∷ filter (λ y. p y && q y) xs) (filter (λ y. p y && q y) xs) ≡ filter q (cond b (x ∷ filter p xs) (filter p xs))
    go true h = ap (λ ys. cond (q x) (x ∷ ys) ys) h
    go false h = h

pub filter_other : {X : Type 0} (p q : X → Bool) (xs : List X) → filter (λ x. p x && q x) xs ≡ filter p (filter q xs)
filter_other {X} p q xs = filter_alike (λ x. p x && q x) (λ x. q x && p x) (λ x. swap (p x) (q x)) xs ∙ filter_both q p xs
  where
    swap : (a b : Bool) → (a && b) ≡ (b && a)
    swap true true = refl
    swap true false = refl
    swap false true = refl
    swap false false = refl

filter_mapped : {X Y : Type 0} (p : Y → Bool) (g : X → Y) (xs : List X) → filter p (map g xs) ≡ map g (filter (λ x. p (g x)) xs)
filter_mapped p g [] = refl
filter_mapped {X} {Y} p g (x ∷ xs) = go (p (g x)) (filter_mapped p g xs)
  where
    go : (b : Bool) → filter p (map g xs) ≡ map g (filter (λ y. p (g y)) xs) → cond b (g x ∷ filter p (map g xs)) (filter p (map g xs)) ≡ map g (cond b (x ∷ filter (λ y. p (g y)) xs) (filter (λ y. p (g y)) xs))
    go true h = ap (λ ys. g x ∷ ys) h
    go false h = h

filter_nothing : {X : Type 0} (xs : List X) → filter (λ x. false) xs ≡ []
filter_nothing [] = refl
filter_nothing (x ∷ xs) = filter_nothing xs

-- choices of which each part passes are the choices of the parts that pass

module _ (p : Need × Reg → Bool) where
  all_pass : List Need → List Reg → Bool
  all_pass vs rs = list_all p (zip vs rs)

  pub part : (v : Need) (vs : List Need) (cs : List (List Reg)) (rs : List Reg) → filter (λ qs. list_all p (zip (v ∷ vs) qs)) (flat_map (λ r. map (λ qs. r ∷ qs) cs) rs) ≡ flat_map (λ r. map (λ qs. r ∷ qs) (filter (λ qs. list_all p (zip vs qs)) cs)) (filter (λ r. p (v, r)) rs)
  part v vs cs [] = refl
  part v vs cs (r ∷ rs) =
      filter-append (λ qs. list_all p (zip (v ∷ vs) qs)) (map (λ qs. r ∷ qs) cs) (flat_map (λ q. map (λ qs. q ∷ qs) cs) rs)
      ∙ ap (λ ys. ys ++ filter (λ qs. list_all p (zip (v ∷ vs) qs)) (flat_map (λ q. map (λ qs. q ∷ qs) cs) rs)) (filter_mapped (λ qs. list_all p (zip (v ∷ vs) qs)) (λ qs. r ∷ qs) cs)
      ∙ ap (λ ys. map (λ qs. r ∷ qs) (filter (λ qs. p (v, r) && list_all p (zip vs qs)) cs) ++ ys) (part v vs cs rs)
      ∙ go (p (v, r))
    where
      go : (b : Bool) → map (λ qs. r ∷ qs) (filter (λ qs. b && list_all p (zip vs qs)) cs) ++ flat_map (λ q. map (λ qs. q ∷ qs) (filter (λ qs. list_all p (zip vs qs)) cs)) (filter (λ q. p (v, q)) rs) ≡ flat_map (λ q. map (λ qs. q ∷ qs) (filter (λ qs. list_all p (zip vs qs)) cs)) (cond b (r ∷ filter (λ q. p (v, q)) rs) (filter (λ q. p (v, q)) rs))
      go true = refl
      go false = ap (λ ys. map (λ qs. r ∷ qs) ys ++ flat_map (λ q. map (λ qs. q ∷ qs) (filter (λ qs. list_all p (zip vs qs)) cs)) (filter (λ q. p (v, q)) rs)) (filter_nothing cs)

  passing : (dom : Need → List Reg) (vs : List Need) → filter (λ qs. list_all p (zip vs qs)) (choices (map dom vs)) ≡ choices (map (λ v. filter (λ r. p (v, r)) (dom v)) vs)
  passing dom [] = refl
  passing dom (v ∷ vs) =
      part v vs (choices (map dom vs)) (dom v)
      ∙ ap (λ cs. flat_map (λ r. map (λ qs. r ∷ qs) cs) (filter (λ r. p (v, r)) (dom v))) (passing dom vs)

-- the units of a register are units of the target
unit-sound : (t : Target) (o : Option RegDesc) (k : ℕ) → slice_get t.regs k ≡ o → (u : UnitNumber) → Member u (units_in o) → u.0 < length t.units
unit-sound t None k e u m = absurd (member-none u m)
unit-sound t (Some d) k e u m =
    let all = second_of_both _ _ (first_of_both _ _ (regs_sound t.name t.version t.units t.regs t.reserved t.indexes t.classes t.masks t.opcodes t.sound)) in
    let p = each_passes (is_reg_desc t.version t.units) t.regs k d (slice_get_within t.regs k d e) all in
    let each = second_of_both _ _ (first_of_both _ _ (first_of_both _ _ (rw (get_or_from_slice_get t.regs k d d e) at p))) in
    ltb-true u.0 (length t.units) (all-of (λ v. nat_lt v.0 (length t.units)) u d.units m each)

pub units-within : (t : Target) (r : Reg) (u : UnitNumber) → Member u (units_of t r) → u.0 < length t.units
units-within t r u m = unit-sound t (slice_get t.regs r.0) r.0 refl u m

-- a variable may lie in a register that is unreserved and avoids the units in use

free_step : (r b d e x all entry exit : Bool) → ((not r && not (b && e) && not (d && x)) && (all && ((not b || not entry) && (not d || not exit)))) ≡ ((not r && all) && ((not b || not ((not r && e) || entry)) && (not d || not ((not r && x) || exit))))
free_step true b d e x all entry exit = refl
free_step false false false e x all entry exit = refl
free_step false false true e true true entry exit = refl
free_step false false true e true false entry exit = refl
free_step false false true e false all entry exit = refl
free_step false true false true x true entry exit = refl
free_step false true false true x false entry exit = refl
free_step false true false false x all entry exit = refl
free_step false true true true x true entry exit = refl
free_step false true true true x false entry exit = refl
free_step false true true false true true true exit = refl
free_step false true true false true true false exit = refl
free_step false true true false true false entry exit = refl
free_step false true true false false all entry exit = refl

module _ (t : Target) (x : Table) (a : PlacePosition) where
  free_of : (k : Use) (us : List UnitNumber) → list_all (is_free t x a k) us ≡ (list_all (λ u. not (is_among t.reserved u)) us && ((not (reaches_back k) || not (list_any (λ u. not (is_among t.reserved u) && at_entry t x a u) us)) && (not (is_defining k) || not (list_any (λ u. not (is_among t.reserved u) && at_exit t x a u) us))))
  free_of k [] = sym (nothing (reaches_back k) (is_defining k))
    where
      nothing : (b d : Bool) → (true && ((not b || true) && (not d || true))) ≡ true
      nothing true true = refl
      nothing true false = refl
      nothing false true = refl
      nothing false false = refl
  free_of k (u ∷ us) =
      ap (λ s. is_free t x a k u && s) (free_of k us)
      ∙ free_step (is_among t.reserved u) (reaches_back k) (is_defining k) (at_entry t x a u) (at_exit t x a u) (list_all (λ w. not (is_among t.reserved w)) us) (list_any (λ w. not (is_among t.reserved w) && at_entry t x a w) us) (list_any (λ w. not (is_among t.reserved w) && at_exit t x a w) us)

  told_any : (test : UnitNumber → Bool) (us : List UnitNumber) → ((u : UnitNumber) → Member u us → u.0 < length t.units) → list_any (λ u. not (is_among t.reserved u) && test u) us ≡ list_any (λ u. takes_part t u.0 && test u) us
  told_any test [] h = refl
  told_any test (u ∷ us) h =
      ap (λ b. (b && test u) || list_any (λ w. not (is_among t.reserved w) && test w) us) (sym (ap (λ b. b && not (is_among t.reserved u)) (lt-ltb u.0 (length t.units) (h u here))))
      ∙ ap (λ b. (takes_part t u.0 && test u) || b) (told_any test us (λ w m. h w (there m)))

  may_told : (k : Use) (r : Reg) → may_lie t x a k r ≡ (is_unreserved t.reserved t.regs r && ((not (reaches_back k) || not (holds_any t (entry_of t x a) r)) && (not (is_defining k) || not (holds_any t (exit_of t x a) r))))
  may_told k r =
      free_of k (units_of t r)
      ∙ ap (λ b. list_all (λ u. not (is_among t.reserved u)) (units_of t r) && ((not (reaches_back k) || not b) && (not (is_defining k) || not (list_any (λ u. not (is_among t.reserved u) && at_exit t x a u) (units_of t r))))) (told_any (at_entry t x a) (units_of t r) (λ u m. units-within t r u m))
      ∙ ap (λ b. list_all (λ u. not (is_among t.reserved u)) (units_of t r) && ((not (reaches_back k) || not (list_any (λ u. takes_part t u.0 && at_entry t x a u) (units_of t r))) && (not (is_defining k) || not b))) (told_any (at_exit t x a) (units_of t r) (λ u m. units-within t r u m))

  options_are : (v : Variable) → filter (λ r. avoids_units t (entry_of t x a) (exit_of t x a) (need_of v, r)) (domain t v.class) ≡ options_in t x a v
  options_are v = go v.class
    where
      go : (c : Option ClassId) → filter (λ r. avoids_units t (entry_of t x a) (exit_of t x a) (need_of v, r)) (domain t c) ≡ filter (may_lie t x a (use_of v.kind)) (regs_of_some t.classes c)
      go None = refl
      go (Some c) =
          sym (filter_both (is_unreserved t.reserved t.regs) (λ r. avoids_units t (entry_of t x a) (exit_of t x a) (need_of v, r)) (regs_of t c))
          ∙ filter_alike _ _ (λ r. sym (may_told (use_of v.kind) r)) (regs_of t c)

  all_options : (vs : List Variable) → map (λ v. filter (λ r. avoids_units t (entry_of t x a) (exit_of t x a) (v, r)) (domain t v.class)) (map need_of vs) ≡ map (options_in t x a) vs
  all_options [] = refl
  all_options (v ∷ vs) = ap (λ rs. rs ∷ map (λ w. filter (λ r. avoids_units t (entry_of t x a) (exit_of t x a) (w, r)) (domain t w.class)) (map need_of vs)) (options_are v) ∙ ap (λ rest. options_in t x a v ∷ rest) (all_options vs)

  pub solved : (vs : List Variable) → first_apart t x a vs ≡ first (solutions t (entry_of t x a) (exit_of t x a) (map need_of vs))
  unfolding solutions
  solved vs =
      let N = map need_of vs in
      let p = avoids_units t (entry_of t x a) (exit_of t x a) in
      let cs = choices (map (λ v. domain t v.class) N) in
      let a : filter (λ qs. all_apart t (zip N qs) && list_all p (zip N qs)) cs ≡ filter (λ qs. all_apart t (zip N qs)) (filter (λ qs. list_all p (zip N qs)) cs) = filter_other (λ qs. all_apart t (zip N qs)) (λ qs. list_all p (zip N qs)) cs in
      let b = passing p (λ v. domain t v.class) N in
      let c = all_options vs in
      sym (ap first (a ∙ ap (filter (λ qs. all_apart t (zip N qs))) (b ∙ ap choices c)))
