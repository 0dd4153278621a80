-- An instruction with tinies in place of the range, behind loads and before stores: other ranges and units at its points.
use Rattle.std.proofs.Common.{◌≡◌, ◌⊎◌, inl, inr, ◌++◌, ◌∙◌, Bool, false, ℕ, List, [], ◌∷◌, length, map, sym, ap, subst}
use Rattle.target_base.specs.declared.types.Target.{Target}
use Rattle.meaning.specs.Code.{Code, Item, Silent, found}
use Rattle.meaning.specs.Lanes.{Writes, filled}
use Rattle.meaning.specs.Live.{Among as Member, here as first, there as later, Writing, WritingEarly, after_leap, exits_of}
use Rattle.meaning.specs.declared.types.Lane.{Lane}
use Rattle.meaning.specs.declared.types.Lane.TheVariants.{SlotLane, VirtualLane}
use Rattle.mir_func.specs.declared.func.Instr.{Instr}
use Rattle.mir_func.specs.declared.func.Block.{Block}
use Rattle.mir_func.specs.Value.{Function}
use Rattle.mir_meaning.specs.Points.{Entry, Exit, OccupiedAt, Point, from_instr, point_item}
use Rattle.instr_effects.proofs.Members.{member-none}
use Rattle.split_laws.proofs.Splitting.{map-append}
use Rattle.clear_laws.proofs.Bounds.{After, along, at-phi, in-order}
use Rattle.clear_laws.proofs.PlaceBounds.{GoesOn, as-itself, as-range, as-slot, is-further}
use Rattle.clear_laws.proofs.PlacesKept.{PlaceKept, Told}
use Rattle.clear_laws.proofs.Replaced.{F, G, IsKept, Told-of, X, after-told, behind-told, early-told, live-told, written-told}
use Rattle.clear_laws.proofs.Seated.{BeforeLoads, BeforeSaves, Can, Fine, IsSeated, Thru, bare-same, before-loads, before-saves, held, plain, seated-bounded, silents, tiny}

module _ (t : Target) (f g : Function) (v slot : ℕ) (wide : ℕ → Type 0) (stored : Code → ℕ → Type 0) (on : GoesOn (X t f g v slot wide stored) (F t f g v slot wide stored) (G t f g v slot wide stored) (length f.classes) v slot wide stored) (x y : Item) (p : Code) (loads saves : List Writes) (s : IsSeated t f g v slot wide stored on x y p loads saves) where
  abbrev Reserved : Lane → Bool
  Reserved = X t f g v slot wide stored

  abbrev Before : Code
  Before = F t f g v slot wide stored

  abbrev Now : Code
  Now = G t f g v slot wide stored

  abbrev Goes : List Item → Lane → Type 0
  Goes js l = Thru t f g v slot wide stored on x y p loads saves js l

  abbrev Behind : Item → List Item → Lane → Type 0
  Behind j js l = After Reserved Before Now (Can t f g v slot wide stored on x y p loads saves) j (Goes js) l

  -- an item of the place: a load, the instruction itself, or a store
  data Stands (u : Item) (back : List Item) : Type 0 where
    loading : (ws : Writes) (ld : List Writes) → u ≡ Silent [] ws → Member ws loads → ((us : Writes) → Member us ld → Member us loads) → back ≡ silents ld ++ (y ∷ silents saves) → Stands u back
    own : u ≡ y → back ≡ silents saves → Stands u back
    saving : (ws : Writes) (sv : List Writes) → u ≡ Silent [] ws → Member ws saves → ((us : Writes) → Member us sv → Member us saves) → back ≡ silents sv → Stands u back

  in-saves : (sv : List Writes) → ((us : Writes) → Member us sv → Member us saves) → (front : List Item) (u : Item) (back : List Item) → front ++ u ∷ back ≡ silents sv → Stands u back
  in-saves [] h [] u back e = absurd (cc)
  in-saves [] h (z ∷ front) u back e = absurd (cc)
  in-saves (ws ∷ sv) h [] u back e = saving ws sv (cc) (h ws first) (λ us m. h us (later m)) (cc)
  in-saves (ws ∷ sv) h (z ∷ front) u back e = in-saves sv (λ us m. h us (later m)) front u back (cc)

  in-place : (ld : List Writes) → ((us : Writes) → Member us ld → Member us loads) → (front : List Item) (u : Item) (back : List Item) → front ++ u ∷ back ≡ silents ld ++ (y ∷ silents saves) → Stands u back
  in-place [] h [] u back e = own (cc) (cc)
  in-place [] h (z ∷ front) u back e = in-saves saves (λ us m. m) front u back (cc)
  in-place (ws ∷ ld) h [] u back e = loading ws ld (cc) (h ws first) (λ us m. h us (later m)) (cc)
  in-place (ws ∷ ld) h (z ∷ front) u back e = in-place ld (λ us m. h us (later m)) front u back (cc)

  module _ (b c : Block) (i : Instr) (js : List Instr) (is : point_item t f b i ≡ x) (now : map (point_item t g c) js ≡ silents loads ++ (y ∷ silents saves)) (stands : from_instr t f i.id f.blocks ≡ x ∷ p) where
    abbrev IsTold : (Lane → Type 0) → Type 0
    IsTold P = Told t f g v slot wide stored P

    abbrev At : Point → Lane → Type 0
    At q l = Told-of t f g v slot wide stored (OccupiedAt t f q) l

    -- what is live before loads and before stores
    loads-live : (ld : List Writes) → ((us : Writes) → Member us ld → Member us loads) → (l : Lane) → Reserved l ≡ false → Goes (silents ld ++ (y ∷ silents saves)) l → At (Entry i.id) l
    loads-live ld h l r z = go (before-loads t f g v slot wide stored on x y p loads saves s ld h l z)
      where
        go : BeforeLoads t f g v slot wide stored on x y p loads saves s ld l → At (Entry i.id) l
        go (plain q z) = live-told t f g v slot wide stored i x p stands l r (inl (q, z))
        go (held q) = live-told t f g v slot wide stored i x p stands l r (inr q)
        go (tiny q z n) = is-further q

    saves-live : (sv : List Writes) → ((us : Writes) → Member us sv → Member us saves) → (l : Lane) → Reserved l ≡ false → Goes (silents sv) l → At (Exit i.id) l
    saves-live sv h l r z = go (before-saves t f g v slot wide stored on x y p loads saves s sv h l z)
      where
        behind : Can t f g v slot wide stored on x y p loads saves p l → At (Exit i.id) l
        behind c = after-told t f g v slot wide stored i x p stands l r (behind-told t f g v slot wide stored x p s.order l c)

        go : BeforeSaves t f g v slot wide stored on x y p loads saves s sv l → At (Exit i.id) l
        go (plain q z) = behind (inl (q, z))
        go (held q n) = behind (inr q)
        go (tiny q n) = is-further q

    saved : (ws : Writes) (l : Lane) → Reserved l ≡ false → Member ws saves → Writing (Silent [] ws) l → At (Exit i.id) l
    saved ws l r m z = let q = s.save_lanes ws l m z in written-told t f g v slot wide stored i x p stands l r (as-range q.0 q.1 q.2 q.3)

    more : {ws : Writes} {ld all : List Writes} → Member ws all → ((us : Writes) → Member us ld → Member us all) → (us : Writes) → Member us (ws ∷ ld) → Member us all
    more {ws} {ld} {all} m h us first = m
    more {ws} {ld} {all} m h us (later k) = h us k

    -- at entries

    load-entry : (ws : Writes) (ld : List Writes) → Member ws loads → ((us : Writes) → Member us ld → Member us loads) → IsTold (λ l. Goes (Silent [] ws ∷ (silents ld ++ (y ∷ silents saves))) l ⊎ WritingEarly (Silent [] ws) l)
    load-entry ws ld m h = (Entry i.id, λ l r z. go l r z)
      where
        go : (l : Lane) → Reserved l ≡ false → Goes (Silent [] ws ∷ (silents ld ++ (y ∷ silents saves))) l ⊎ WritingEarly (Silent [] ws) l → At (Entry i.id) l
        go l r (inl z) = loads-live (ws ∷ ld) (more m h) l r z
        go l r (inr z) = is-further (s.load_lanes ws l m (z.0, z.1, z.2))

    own-entry : IsTold (λ l. Goes (y ∷ silents saves) l ⊎ WritingEarly y l)
    own-entry = (Entry i.id, λ l r z. go l r z)
      where
        go : (l : Lane) → Reserved l ≡ false → Goes (y ∷ silents saves) l ⊎ WritingEarly y l → At (Entry i.id) l
        go l r (inl z) = loads-live [] (λ us m. absurd (member-none us m)) l r z
        go l r (inr z) = early-told t f g v slot wide stored i x p stands l r (s.early l z)

    save-entry : (ws : Writes) (sv : List Writes) → Member ws saves → ((us : Writes) → Member us sv → Member us saves) → IsTold (λ l. Goes (Silent [] ws ∷ silents sv) l ⊎ WritingEarly (Silent [] ws) l)
    save-entry ws sv m h = (Exit i.id, λ l r z. go l r z)
      where
        go : (l : Lane) → Reserved l ≡ false → Goes (Silent [] ws ∷ silents sv) l ⊎ WritingEarly (Silent [] ws) l → At (Exit i.id) l
        go l r (inl z) = saves-live (ws ∷ sv) (more m h) l r z
        go l r (inr z) = saved ws l r m (z.0, z.1, z.2)

    -- at exits

    load-exit : (ws : Writes) (ld : List Writes) → Member ws loads → ((us : Writes) → Member us ld → Member us loads) → IsTold (λ l. Behind (Silent [] ws) (silents ld ++ (y ∷ silents saves)) l ⊎ Writing (Silent [] ws) l)
    load-exit ws ld m h = (Entry i.id, λ l r z. go l r z)
      where
        go : (l : Lane) → Reserved l ≡ false → Behind (Silent [] ws) (silents ld ++ (y ∷ silents saves)) l ⊎ Writing (Silent [] ws) l → At (Entry i.id) l
        go l r (inl (in-order o z)) = loads-live ld h l r z
        go l r (inl (along k z e)) = absurd (member-none _ k)
        go l r (inl (at-phi k z e)) = absurd (member-none _ k)
        go l r (inr z) = is-further (s.load_lanes ws l m z)

    own-exit : IsTold (λ l. Behind y (silents saves) l ⊎ Writing y l)
    own-exit = (Exit i.id, λ l r z. go l r z)
      where
        go : (l : Lane) → Reserved l ≡ false → Behind y (silents saves) l ⊎ Writing y l → At (Exit i.id) l
        go l r (inl (in-order o z)) = saves-live saves (λ us m. m) l r z
        go l r (inl (along {e = e} {a = a} k (inl z) q)) =
            let m = subst (Member e) s.exits k in
            after-told t f g v slot wide stored i x p stands l r (as-itself (subst (Fine t f g v slot wide stored on x y p loads saves) (bare-same e.phis a l (s.bare e m) q) z.0) (after_leap m z.1 q))
        go l r (inl (along {e = e} {a = a} k (inr z) q)) = by z.from
          where
            m : Member e (exits_of x)
            m = subst (Member e) s.exits k

            same-as : l ≡ SlotLane slot z.k z.w
            same-as = sym (bare-same e.phis a l (s.bare e m) q) ∙ z.is

            by : IsKept t f g v slot wide stored (found e.block Before) z.k → At (Exit i.id) l
            by (inl c) = after-told t f g v slot wide stored i x p stands l r (as-slot z.k z.w c.0 same-as (after_leap m c.2 (ap (λ ws. filled ws (SlotLane slot z.k c.0)) (s.bare e m))))
            by (inr c) = after-told t f g v slot wide stored i x p stands l r (as-range z.k z.w same-as (after_leap m c.0 (ap (λ ws. filled ws (VirtualLane v z.k)) (s.bare e m))))
        go l r (inl (at-phi {e = e} {w = w} k z q)) = absurd (member-none w (subst (Member w) (s.bare e (subst (Member e) s.exits k)) z))
        go l r (inr z) = written-told t f g v slot wide stored i x p stands l r (s.written l z)

    save-exit : (ws : Writes) (sv : List Writes) → Member ws saves → ((us : Writes) → Member us sv → Member us saves) → IsTold (λ l. Behind (Silent [] ws) (silents sv) l ⊎ Writing (Silent [] ws) l)
    save-exit ws sv m h = (Exit i.id, λ l r z. go l r z)
      where
        go : (l : Lane) → Reserved l ≡ false → Behind (Silent [] ws) (silents sv) l ⊎ Writing (Silent [] ws) l → At (Exit i.id) l
        go l r (inl (in-order o z)) = saves-live sv h l r z
        go l r (inl (along k z e)) = absurd (member-none _ k)
        go l r (inl (at-phi k z e)) = absurd (member-none _ k)
        go l r (inr z) = saved ws l r m z

    entries : (u : Item) (back : List Item) → Stands u back → IsTold (λ l. Goes (u ∷ back) l ⊎ WritingEarly u l)
    entries u back (loading ws ld e m h q) = subst (λ w. IsTold (λ l. Goes (w ∷ back) l ⊎ WritingEarly w l)) (sym e) (subst (λ k. IsTold (λ l. Goes (Silent [] ws ∷ k) l ⊎ WritingEarly (Silent [] ws) l)) (sym q) (load-entry ws ld m h))
    entries u back (own e q) = subst (λ w. IsTold (λ l. Goes (w ∷ back) l ⊎ WritingEarly w l)) (sym e) (subst (λ k. IsTold (λ l. Goes (y ∷ k) l ⊎ WritingEarly y l)) (sym q) own-entry)
    entries u back (saving ws sv e m h q) = subst (λ w. IsTold (λ l. Goes (w ∷ back) l ⊎ WritingEarly w l)) (sym e) (subst (λ k. IsTold (λ l. Goes (Silent [] ws ∷ k) l ⊎ WritingEarly (Silent [] ws) l)) (sym q) (save-entry ws sv m h))

    exits : (u : Item) (back : List Item) → Stands u back → IsTold (λ l. Behind u back l ⊎ Writing u l)
    exits u back (loading ws ld e m h q) = subst (λ w. IsTold (λ l. Behind w back l ⊎ Writing w l)) (sym e) (subst (λ k. IsTold (λ l. Behind (Silent [] ws) k l ⊎ Writing (Silent [] ws) l)) (sym q) (load-exit ws ld m h))
    exits u back (own e q) = subst (λ w. IsTold (λ l. Behind w back l ⊎ Writing w l)) (sym e) (subst (λ k. IsTold (λ l. Behind y k l ⊎ Writing y l)) (sym q) own-exit)
    exits u back (saving ws sv e m h q) = subst (λ w. IsTold (λ l. Behind w back l ⊎ Writing w l)) (sym e) (subst (λ k. IsTold (λ l. Behind (Silent [] ws) k l ⊎ Writing (Silent [] ws) l)) (sym q) (save-exit ws sv m h))

    standing : (front : List Instr) (u : Instr) (back : List Instr) → front ++ u ∷ back ≡ js → Stands (point_item t g c u) (map (point_item t g c) back)
    standing front u back e =
        in-place loads (λ us m. m) (map (point_item t g c) front) (point_item t g c u) (map (point_item t g c) back)
        (sym (map-append (point_item t g c) front (u ∷ back)) ∙ (ap (map (point_item t g c)) e ∙ now))

    pub seated-kept : PlaceKept t f g v slot wide stored b c (i ∷ []) js p
    seated-kept = record {
      bounds = λ l z. subst (λ q. Can t f g v slot wide stored on x y p loads saves (q ∷ p) l) (sym is) (seated-bounded t f g v slot wide stored on x y p loads saves s l (subst (λ k. Goes k l) now z));
      entry = λ front u back e. entries (point_item t g c u) (map (point_item t g c) back) (standing front u back e);
      exit = λ front u back e. exits (point_item t g c u) (map (point_item t g c) back) (standing front u back e);
    }
