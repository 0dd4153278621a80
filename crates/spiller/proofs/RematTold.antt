-- What is rematerialised, by the readings that are listed, is the definition's.
use Rattle.std.proofs.Common.{◌≡◌, ◌∙◌, ◌⊎◌, inl, inr, ℕ, zero, suc, ◌<◌, Bool, true, false, cond, not, ◌&&◌, ◌||◌, List, [], ◌∷◌, ◌++◌, Option, Some, None, filter, flat_map, length, map, refl, sym, ap, subst, arith, eq-eqb, eqb-true}
use Rattle.std.specs.Prelude.{find, is_some, nat_eq, nat_lt, option_map, slice_get}
use Rattle.std.specs.List.{AllByRecursion, list_all, list_any}
use Rattle.std.proofs.lemmas.Bool.{lt-ltb}
use Rattle.target_base.specs.declared.types.Effect.{Effect}
use Rattle.target_base.specs.declared.types.Effect.TheVariants as effects
use Rattle.target_base.specs.declared.types.Target.{Target}
use Rattle.target_base.proofs.Tests.{first_of_both, second_of_both}
use Rattle.meaning.specs.Live.{Among as Member, here as first, there as later}
use Rattle.mir_func.specs.declared.func.Instr.{Instr}
use Rattle.mir_func.specs.declared.func.Block.{Block}
use Rattle.mir_func.specs.Value.{Function}
use Rattle.mir_func.specs.Binding.{does}
use Rattle.mir_meaning.specs.Paths.{has}
use Rattle.mir_meaning.specs.Points.{touches}
use Rattle.instr_effects.proofs.Members.{filter-in, filter-of, flat-in, flat-of, map-in, member-elim, member-none}
use Rattle.live_lanes.specs.declared.table.Table.{Table}
use Rattle.live_lanes.specs.Touching.{AreTouched}
use Rattle.live_lanes.proofs.Cells.{both}
use Rattle.live_laws.proofs.Effects.Blocks.{slice-member}
use Rattle.live_laws.proofs.Effects.Lists.{all-of, any-in}
use Rattle.live_laws.proofs.Touch.Cells.{any-of}
use Rattle.live_laws.proofs.Touch.Sequence.{has-member, member-has}
use Rattle.spiller.specs.declared.plan.SpillView.{SpillView}
use Rattle.spiller.specs.declared.reaching.Definition.{Definition}
use Rattle.spiller.specs.declared.remat.RematSource.{RematSource}
use Rattle.spiller.specs.declared.remat.RematUse.{RematUse}
use Rattle.spiller.specs.declared.remat.UseKey.{UseKey}
use Rattle.spiller.specs.MaySpill.{MaySpill}
use Rattle.spiller.specs.Listed.{AreKeyed, none, more, IsJudged, IsKeyed, Keyed, TestsNeedless, TestsOne, keyed_by, told_sources}
use Rattle.spiller.specs.Reaching.{AreFacts, Facts}
use Rattle.spiller.specs.Readings.{AreDefinitions, IsReading, is_only_repeated, needs_value, reached_by, reaches_use, same_key}
use Rattle.spiller.specs.Rematerialised.{Reading, all_readings, is_constant, is_needless, is_rematerialised, reaches, repeated_for}
use Rattle.spiller.specs.Setting.{Spilling}
use Rattle.spiller.specs.Views.{spilling_of}
use Rattle.spiller.proofs.KeyedPlaces.{all-back, all-forth, site}
use Rattle.spiller.proofs.ReachesTold.{Site, ids-are, one-instr, site-of}
use Rattle.spiller.proofs.ReadingSources.{test, test-instr, test-listed, test-untouched}
use Rattle.spiller.proofs.Basics.{is-false, same-truth, some-member}

-- tests and lists

is-true : (b : Bool) → (b ≡ false → ⊥) → b ≡ true
is-true true n = refl
is-true false n = absurd (n refl)

all-in : {X : Type 0} (p : X → Bool) (xs : List X) → ((x : X) → Member x xs → p x ≡ true) → list_all p xs ≡ true
all-in p [] h = refl
all-in p (x ∷ xs) h = λ k. h x first k && all-in p xs (λ y m. h y (later m)) k

member-some : {X : Type 0} (x : X) (xs : List X) → Member x xs → nat_lt 0 (length xs) ≡ true
member-some x [] m = absurd (member-none x m)
member-some x (y ∷ xs) m = lt-ltb 0 (length (y ∷ xs)) (omega arith)

all-member : {X : Type 0} (P : X → Type 0) (x : X) (xs : List X) → AllByRecursion P xs → Member x xs → P x
all-member P x [] h m = absurd (member-none x m)
all-member P x (y ∷ xs) h m = member-elim x y xs (λ e. subst P (sym e) h.0) (all-member P x xs h.1) m

-- what is listed, one by one

pub keyed-of : (s : Spilling) (ks : List Keyed) (us : List RematUse) → AreKeyed s ks us → (u : RematUse) → Member u us → (k : Keyed) × Member k ks × IsKeyed s k u
keyed-of s ks us none u m = absurd (member-none u m)
keyed-of s ks us (more {k = k} {ks = ks'} {u = w} {us = us'} one rest) u m =
    member-elim u w us' (λ e. (k, first, subst (IsKeyed s k) (sym e) one)) (λ n. let z = keyed-of s ks' us' rest u n in (z.0, later z.1, z.2)) m

pub keyed-in : (s : Spilling) (ks : List Keyed) (us : List RematUse) → AreKeyed s ks us → (k : Keyed) → Member k ks → (u : RematUse) × Member u us × IsKeyed s k u
keyed-in s ks us none k m = absurd (member-none k m)
keyed-in s ks us (more {k = j} {ks = ks'} {u = w} {us = us'} one rest) k m =
    member-elim k j ks' (λ e. (w, first, subst (λ i. IsKeyed s i w) (sym e) one)) (λ n. let z = keyed-in s ks' us' rest k n in (z.0, later z.1, z.2)) m

-- the source that is found for a key, where all that are listed under it have that one

pub found-source : (key : UseKey) (n : Option ℕ) (us : List RematUse) → ((u : RematUse) → Member u us → same_key key u.demand.key ≡ true → u.source ≡ n) → (n ≡ None) ⊎ ((u : RematUse) × Member u us × (same_key key u.demand.key ≡ true))
    → option_map (λ (s : RematSource). s.id) (find (λ (s : RematSource). same_key key s.key) (flat_map told_sources us)) ≡ n
found-source key n [] h some = none-left some
  where
    none-left : (n ≡ None) ⊎ ((u : RematUse) × Member u [] × (same_key key u.demand.key ≡ true)) → None ≡ n
    none-left (inl e) = sym e
    none-left (inr z) = absurd (member-none z.0 z.1)
found-source key n (u ∷ us) h some = go u.source refl (found-source key n us (λ w m. h w (later m)))
  where
    rest : List RematSource
    rest = flat_map told_sources us

    Found : List RematSource → Type 0
    Found xs = option_map (λ (s : RematSource). s.id) (find (λ (s : RematSource). same_key key s.key) xs) ≡ n

    -- one without a source, or under another key, is passed by
    past : (u.source ≡ None) ⊎ (same_key key u.demand.key ≡ false) → (n ≡ None) ⊎ ((w : RematUse) × Member w us × (same_key key w.demand.key ≡ true))
    past e = by some
      where
        at : (w : RematUse) → same_key key w.demand.key ≡ true → w ≡ u → (u.source ≡ None) ⊎ (same_key key u.demand.key ≡ false) → n ≡ None
        at w hit same (inl q) = sym (h u first (ap (λ (z : RematUse). same_key key z.demand.key) (sym same) ∙ hit)) ∙ q
        at w hit same (inr q) = let z : true ≡ false = sym hit ∙ (ap (λ (z : RematUse). same_key key z.demand.key) same ∙ q) in absurd (cc)

        by : (n ≡ None) ⊎ ((w : RematUse) × Member w (u ∷ us) × (same_key key w.demand.key ≡ true)) → (n ≡ None) ⊎ ((w : RematUse) × Member w us × (same_key key w.demand.key ≡ true))
        by (inl q) = inl q
        by (inr z) = member-elim z.0 u us (λ same. inl (at z.0 z.2 same e)) (λ m. inr (z.0, m, z.2)) z.1

    go : (q : Option ℕ) → u.source ≡ q → ((n ≡ None) ⊎ ((w : RematUse) × Member w us × (same_key key w.demand.key ≡ true)) → Found rest) → Found ((elim q as (λ q. List RematSource) [ None ↦ [] | Some id ↦ record { key = u.demand.key; id = id } ∷ [] ]) ++ rest)
    go None e ih = ih (past (inl e))
    go (Some id) e ih = at (same_key key u.demand.key) refl
      where
        at : (b : Bool) → same_key key u.demand.key ≡ b → option_map (λ (s : RematSource). s.id) (cond b (Some (record { key = u.demand.key; id = id })) (find (λ (s : RematSource). same_key key s.key) rest)) ≡ n
        at true hit = sym e ∙ h u first hit
        at false no' = ih (past (inr no'))

module _ (view : SpillView) (may : MaySpill view.target.now view.live.now.func view.live.now.table view.v) (ids : List ℕ) (ds : List Definition) (told : AreDefinitions view.target.now view.live.now.func view.live.now.table view.v ids ds) (slot : ℕ) (facts : Facts) (tell : AreFacts view.target.now view.live.now.func view.v facts)
    (us : List RematUse) (keyed : AreKeyed (spilling_of view slot facts) (keyed_by view ids (spilling_of view slot facts)) us) (judged : AllByRecursion (IsJudged view ds) us) where
  abbrev s : Spilling
  s = spilling_of view slot facts

  abbrev t : Target
  t = view.target.now

  abbrev f : Function
  f = view.live.now.func

  abbrev x : Table
  x = view.live.now.table

  abbrev v : ℕ
  v = view.v

  are : AreTouched x v ids
  are = told.touched

  abbrev all : List Instr
  all = flat_map (λ b. b.instrs) f.blocks

  pub source-is : (u : RematUse) → Member u us → (r : Reading) → IsReading s r u → u.source ≡ option_map (λ d. d.id) (repeated_for s r)
  source-is u m r is = all-member (IsJudged view ds) u us judged m slot facts r ids may told tell is

  reading-of : (u : RematUse) → Member u us → (r : Reading) × Member r (all_readings s) × IsReading s r u
  reading-of u m = let z = keyed-of s (keyed_by view ids s) us keyed u m in (z.0.1, all-forth view may ids are slot facts z.0 z.1, z.2.is)

  use-of : (r : Reading) → Member r (all_readings s) → (u : RematUse) × Member u us × IsReading s r u
  use-of r m =
      let k = all-back view may ids are slot facts r m in
      let z = keyed-in s (keyed_by view ids s) us keyed k.0 k.1 in
      (z.0, z.1, subst (λ q. IsReading s q z.0) (sym k.2) z.2.is)

  -- a definition that goes

  module _ (d : Definition) (md : Member d ds) (i : Instr) (named : i.id ≡ d.id) where
    abbrev rs : List Reading
    rs = filter (reaches s i) (all_readings s)

    reach-same : (u : RematUse) (r : Reading) → IsReading s r u → reaches s i r ≡ reaches_use s d u
    reach-same u r is =
        test-instr t f x v may ids ds told slot facts tell r u.by.items is.by i
        ∙ (ap (test t f x v may ids ds told slot facts tell u.by.items r.lanes) named
        ∙ (test-listed t f x v may ids ds told slot facts tell u.by.items r.lanes d md
        ∙ ap (λ ls. reached_by u.by.items ls d) is.lanes))

    some-same : list_any (reaches_use s d) us ≡ nat_lt 0 (length rs)
    some-same = same-truth _ _
        (λ h.
        let z = any-of (reaches_use s d) us h in
        let r = reading-of z.0 z.1 in
        member-some r.0 rs (filter-in (reaches s i) r.0 (all_readings s) r.1 (reach-same z.0 r.0 r.2 ∙ z.2)))
        (λ h.
        let r = some-member rs h in
        let m = filter-of (reaches s i) r.0 (all_readings s) r.1 in
        let u = use-of r.0 m.0 in
        any-in (reaches_use s d) u.0 us u.1 (sym (reach-same u.0 r.0 u.2) ∙ m.1))

    some-repeated : (q : Option Instr) → is_some (option_map (λ d. d.id) q) ≡ elim q as (λ q. Bool) [ None ↦ false | Some d ↦ true ]
    some-repeated None = refl
    some-repeated (Some d) = refl

    repeated-same : (u : RematUse) → Member u us → (r : Reading) → IsReading s r u → is_some u.source ≡ is_rematerialised s r
    repeated-same u m r is = ap is_some (source-is u m r is) ∙ some-repeated (repeated_for s r)

    all-same : not (list_any (needs_value s d) us) ≡ list_all (is_rematerialised s) rs
    all-same = same-truth _ _ forth back
      where
        not-true : (b : Bool) → not b ≡ true → b ≡ true → ⊥
        not-true true h g = cc
        not-true false h g = cc

        forth : not (list_any (needs_value s d) us) ≡ true → list_all (is_rematerialised s) rs ≡ true
        forth h = all-in (is_rematerialised s) rs (λ r m.
            let n = filter-of (reaches s i) r (all_readings s) m in
            let u = use-of r n.0 in
            is-true (is_rematerialised s r) (λ e. not-true (list_any (needs_value s d) us) h
            (any-in (needs_value s d) u.0 us u.1 (both (reaches_use s d u.0) (not (is_some u.0.source)) (sym (reach-same u.0 r u.2) ∙ n.1) (ap not (repeated-same u.0 u.1 r u.2 ∙ e))))))

        back : list_all (is_rematerialised s) rs ≡ true → not (list_any (needs_value s d) us) ≡ true
        back h = ap not (is-false (list_any (needs_value s d) us) (λ g.
            let z = any-of (needs_value s d) us g in
            let r = reading-of z.0 z.1 in
            let m = filter-in (reaches s i) r.0 (all_readings s) r.1 (reach-same z.0 r.0 r.2 ∙ first_of_both (reaches_use s d z.0) (not (is_some z.0.source)) z.2) in
            not-true (is_some z.0.source) (second_of_both (reaches_use s d z.0) (not (is_some z.0.source)) z.2) (repeated-same z.0 z.1 r.0 r.2 ∙ all-of (is_rematerialised s) r.0 rs m h)))

    pub needless-is : (does is_constant t i && is_only_repeated s d us) ≡ is_needless s i
    needless-is = (λ k. does is_constant t i && (some-same k && all-same k)) ∙ go (does is_constant t i)
      where
        go : (a : Bool) → (a && (nat_lt 0 (length rs) && list_all (is_rematerialised s) rs)) ≡ (a && nat_lt 0 (length rs) && list_all (is_rematerialised s) rs)
        go true = refl
        go false = refl

  -- the definitions that go, by their ids

  abbrev pub goes : ℕ → Bool
  goes id = list_any (λ (i : Instr). nat_eq i.id id && is_needless s i) all

  site-in : (i : Instr) → Member i all → Site t f x v may ids are i
  site-in i m = let b = flat-of (λ (b : Block). b.instrs) i f.blocks m in site view may ids are slot facts b.0 b.1 i b.2

  goes-at : (i : Instr) → Member i all → goes i.id ≡ is_needless s i
  goes-at i m = same-truth _ _
      (λ h.
      let z = any-of (λ (j : Instr). nat_eq j.id i.id && is_needless s j) all h in
      let same : z.0 ≡ i = one-instr t f x v may ids are z.0 i (site-in z.0 z.1) (site-in i m) (eqb-true z.0.id i.id (first_of_both (nat_eq z.0.id i.id) (is_needless s z.0) z.2)) in
      ap (is_needless s) (sym same) ∙ second_of_both (nat_eq z.0.id i.id) (is_needless s z.0) z.2)
      (λ h. any-in (λ (j : Instr). nat_eq j.id i.id && is_needless s j) i all m (both (nat_eq i.id i.id) (is_needless s i) (eq-eqb i.id i.id refl) h))

  pub goes-tests : TestsNeedless s ds us goes
  goes-tests d m =
      let w = site-of t f x v may ids are d.id (sym (are.named d.id) ∙ member-has d.id ids (subst (Member d.id) told.named (map-in (λ (e : Definition). e.id) d ds m))) in
      let inside = flat-in (λ (b : Block). b.instrs) w.0 w.1.block f.blocks (slice-member f.blocks w.1.position w.1.block w.1.stands) (slice-member w.1.block.instrs w.1.spot w.0 w.1.there) in
      (w.1.position, w.1.spot, w.1.block, w.0, w.1.stands, w.1.there, w.2, ap goes (sym w.2) ∙ (goes-at w.0 inside ∙ sym (needless-is d m w.0 w.2)))

  has-filter : (p : ℕ → Bool) (n : ℕ) (ns : List ℕ) → has n (filter p ns) ≡ (has n ns && p n)
  has-filter p n ns = same-truth _ _
      (λ h. let z = filter-of p n ns (has-member n (filter p ns) h) in both (has n ns) (p n) (member-has n ns z.0) z.1)
      (λ h. member-has n (filter p ns) (filter-in p n ns (has-member n ns (first_of_both (has n ns) (p n) h)) (second_of_both (has n ns) (p n) h)))

  -- what is needed no more touches the range
  needless-named : (i : Instr) → Member i all → is_needless s i ≡ true → has i.id ids ≡ true
  needless-named i m h = go (touches v i) refl
    where
      rs : List Reading
      rs = filter (reaches s i) (all_readings s)

      some : nat_lt 0 (length rs) ≡ true
      some = second_of_both (does is_constant t i) (nat_lt 0 (length rs)) (first_of_both (does is_constant t i && nat_lt 0 (length rs)) (list_all (is_rematerialised s) rs) h)

      go : (b : Bool) → touches v i ≡ b → has i.id ids ≡ true
      go true e = member-has i.id ids (subst (Member i.id) (sym (ids-are t f x v may ids are)) (map-in (λ (j : Instr). j.id) i (filter (touches v) all) (filter-in (touches v) i all m e)))
      go false e =
          let r = some-member rs some in
          let n = filter-of (reaches s i) r.0 (all_readings s) r.1 in
          let u = use-of r.0 n.0 in
          let out : reaches s i r.0 ≡ false = test-instr t f x v may ids ds told slot facts tell r.0 u.0.by.items u.2.by i ∙ test-untouched t f x v may ids ds told slot facts tell u.0.by.items r.0.lanes i m e in
          let z : true ≡ false = sym n.1 ∙ out in absurd (cc)

  pub gone-is : (deleted : List ℕ) → deleted ≡ filter goes (map (λ d. d.id) ds) → (b : Block) (i : Instr) → Member b f.blocks → Member i b.instrs → has i.id deleted ≡ is_needless s i
  gone-is deleted e b i mb mi =
      let m = flat-in (λ (c : Block). c.instrs) i b f.blocks mb mi in
      ap (has i.id) (e ∙ ap (filter goes) told.named)
      ∙ (has-filter goes i.id ids
      ∙ (ap (λ q. has i.id ids && q) (goes-at i m) ∙ last (is_needless s i) refl (needless-named i m)))
    where
      and-true : (a : Bool) → a ≡ true → (a && true) ≡ true
      and-true a h = λ k. h k && true

      and-false : (a : Bool) → (a && false) ≡ false
      and-false true = refl
      and-false false = refl

      last : (q : Bool) → is_needless s i ≡ q → (q ≡ true → has i.id ids ≡ true) → (has i.id ids && q) ≡ q
      last true e h = and-true (has i.id ids) (h refl)
      last false e h = and-false (has i.id ids)
