-- What is loaded before a place with tinies, and what is stored behind it.
use Rattle.std.proofs.Common.{◌≡◌, ◌∷◌, ◌++◌, ◌∙◌, ◌&&◌, ◌+◌, ◌≤◌, not, ℕ, suc, Bool, true, false, cond, List, None, flat_map, length, map, refl, sym, ap, subst, arith, eqb-true, []}
use Rattle.std.proofs.lemmas.List.{length-map}
use Rattle.std.specs.Prelude.{filter, nat_eq}
use Rattle.target_base.specs.declared.types.Target.{Target}
use Rattle.meaning.specs.Code.{Silent}
use Rattle.meaning.specs.Live.{Among as Member, here as first, there as later}
use Rattle.meaning.specs.declared.types.Source.{Source}
use Rattle.mir_func.specs.declared.func.Loc.TheVariants.{Virtual}
use Rattle.mir_func.specs.declared.func.RegOp.{RegOp}
use Rattle.mir_func.specs.declared.func.Instr.{Instr}
use Rattle.mir_func.specs.declared.func.Block.{Block}
use Rattle.mir_func.specs.Value.{Function}
use Rattle.mir_func.specs.Binding.{TiedPair, effect_of, is_early_clobber, numbered, register_at, roles_of, tied_pairs}
use Rattle.mir_meaning.specs.Codes.{item_of}
use Rattle.mir_meaning.specs.Items.{moved}
use Rattle.mir_meaning.specs.Places.{Variable}
use Rattle.mir_meaning.specs.Registers.{numbers, range_widths}
use Rattle.instr_effects.proofs.Members.{either-elim, filter-of, flat-of, map-of, member-elim, member-none}
use Rattle.live_laws.proofs.Effects.Moving.{some-same}
use Rattle.lowering_laws.proofs.Lowering.{map-append}
use Rattle.lowering_laws.proofs.Traced.{lanes_by, silents}
use Rattle.spiller.specs.Setting.{Spilling, in_own_slot, is_live_behind, is_own, own_lanes, plain_definition, plain_use, reload, store}
use Rattle.spiller.specs.Rematerialised.{tied_readings, ways_read}
use Rattle.spiller.specs.Spilled.{OwnDefinition, Seats, definitions_in, given, place_change, seats_from, stored, tied_reload}
use Rattle.spill_laws.specs.Laws.{HasTinies}
use Rattle.spill_laws.specs.Seats.{GivesLoad, IsPlain, Load, Save, load_writes, save_writes}
use Rattle.spill_laws.proofs.OwnOperands.{at-number, definition-sized, pair-shares, site-of}
use Rattle.spill_laws.proofs.SlotPlaces.{home, width}
use Rattle.spill_laws.proofs.SpillItems.{reload-effect, reload-item}
use Rattle.spill_laws.proofs.TinyMoves.{tiny_moves}
use Rattle.spill_laws.proofs.TinySeats.{high-number, low-number, one-number}

module _ (s : Spilling) (g : Function) (c : Block) (n : ℕ) (p : List Instr) where
  abbrev t : Target
  t = s.target

  -- for ways of reading

  abbrev pub GivesAll : List (ℕ × Variable) → Type 0
  GivesAll ws = (x : ℕ × Variable) → Member x ws → GivesLoad s g c p x

  abbrev pub way_loads : (ws : List (ℕ × Variable)) → GivesAll ws → List Load
  way_loads [] gives = []
  way_loads (x ∷ ws) gives = (gives x first).load ∷ way_loads ws (λ y m. gives y (later m))

  ways-items : (ws : List (ℕ × Variable)) (gives : GivesAll ws) → map (item_of t g c) (map (given s p) ws) ≡ silents (map load_writes (way_loads ws gives))
  ways-items [] gives = refl
  ways-items (x ∷ ws) gives = λ k. (gives x first).item k ∷ ways-items ws (λ y m. gives y (later m)) k

  pub record OfWay (ws : List (ℕ × Variable)) (l : Load) : Type 0 where
    pub way : ℕ × Variable
    pub inside : Member way ws
    pub gives : GivesLoad s g c p way
    pub is : l ≡ gives.load

  pub load-of-way : (ws : List (ℕ × Variable)) (gives : GivesAll ws) (l : Load) → Member l (way_loads ws gives) → OfWay ws l
  load-of-way [] gives l m = absurd (member-none l m)
  load-of-way (x ∷ ws) gives l m =
      member-elim l (gives x first).load (way_loads ws (λ y k. gives y (later k)))
      (λ e. record { way = x; inside = first; gives = gives x first; is = e })
      (λ k. let w = load-of-way ws (λ y j. gives y (later j)) l k in record { way = w.way; inside = later w.inside; gives = w.gives; is = w.is }) m

  pub way-load-in : (ws : List (ℕ × Variable)) (gives : GivesAll ws) (x : ℕ × Variable) → Member x ws → (y : GivesLoad s g c p x) × Member y.load (way_loads ws gives)
  way-load-in [] gives x m = absurd (member-none x m)
  way-load-in (w ∷ ws) gives x m =
      member-elim x w ws
      (λ e. subst (λ v. (y : GivesLoad s g c p v) × Member y.load (way_loads (w ∷ ws) gives)) (sym e) (gives w first, first))
      (λ k. let v = way-load-in ws (λ y j. gives y (later j)) x k in (v.0, later v.1)) m

  ways-once : (k : ℕ) (vs : List Variable) (gives : GivesAll (numbered k vs)) (l m : Load) → Member l (way_loads (numbered k vs) gives) → Member m (way_loads (numbered k vs) gives) → l.tiny ≡ m.tiny → l ≡ m
  ways-once k [] gives l m a b e = absurd (member-none l a)
  ways-once k (v ∷ vs) gives l m a b e =
      member-elim l one rest
      (λ i. member-elim m one rest (λ j. i ∙ sym j) (λ j. absurd (far l m i j e)) b)
      (λ i. member-elim m one rest (λ j. absurd (far m l j i (sym e))) (λ j. ways-once (suc k) vs (λ y q. gives y (later q)) l m i j e) b) a
    where
      one : Load
      one = (gives (k, v) first).load

      rest : List Load
      rest = way_loads (numbered (suc k) vs) (λ y q. gives y (later q))

      far : (x y : Load) → x ≡ (gives (k, v) first).load → Member y (way_loads (numbered (suc k) vs) (λ y q. gives y (later q))) → x.tiny ≡ y.tiny → ⊥
      far x y i j e =
          let w = load-of-way (numbered (suc k) vs) (λ y q. gives y (later q)) y j in
          let low = low-number (suc k) vs w.way w.inside in
          let a : x.tiny ≡ k = ap (λ (q : Load). q.tiny) i ∙ (gives (k, v) first).tiny in
          let b : y.tiny ≡ w.way.0 = ap (λ (q : Load). q.tiny) w.is ∙ w.gives.tiny in
          omega (arith, low, a, b, e)

  -- for uses that are tied to definitions

  abbrev pub tied_load : ℕ × OwnDefinition → Load
  tied_load x = record {
    tiny = x.0;
    early = is_early_clobber (roles_of s.target (reload s.target x.1.class (plain_definition (Virtual x.0) None) (in_own_slot s x.1.index)));
    sources = map (home s) (own_lanes s x.1.index);
  }

  abbrev pub tied_uses : ℕ × OwnDefinition → List TiedPair
  tied_uses x = filter (λ (q : TiedPair). nat_eq q.number x.1.number) (tied_readings s x.1.by)

  abbrev pub tied_loads : List (ℕ × OwnDefinition) → List Load
  tied_loads xs = flat_map (λ x. map (λ (q : TiedPair). tied_load x) (tied_uses x)) xs

  pub load-of-tie : (xs : List (ℕ × OwnDefinition)) (l : Load) → Member l (tied_loads xs) → (x : ℕ × OwnDefinition) × Member x xs × (l ≡ tied_load x)
  load-of-tie xs l m = let w = flat-of (λ x. map (λ (q : TiedPair). tied_load x) (tied_uses x)) l xs m in let y = map-of (λ (q : TiedPair). tied_load w.0) l (tied_uses w.0) w.2 in (w.0, w.1, y.2)

  -- what is stored

  abbrev pub save_of : ℕ × OwnDefinition → Save
  save_of x = record { tiny = x.0; lanes = own_lanes s x.1.index }

  abbrev pub saves_of : List (ℕ × OwnDefinition) → List Save
  saves_of [] = []
  saves_of (x ∷ xs) = cond (is_live_behind s x.1.by x.1.index) (save_of x ∷ saves_of xs) (saves_of xs)

  pub save-from : (xs : List (ℕ × OwnDefinition)) (y : Save) → Member y (saves_of xs) → (x : ℕ × OwnDefinition) × Member x xs × (y ≡ save_of x)
  save-from [] y m = absurd (member-none y m)
  save-from (x ∷ xs) y m = go (is_live_behind s x.1.by x.1.index) m (λ k. let w = save-from xs y k in (w.0, later w.1, w.2))
    where
      go : (b : Bool) → Member y (cond b (save_of x ∷ saves_of xs) (saves_of xs)) → (Member y (saves_of xs) → (w : ℕ × OwnDefinition) × Member w (x ∷ xs) × (y ≡ save_of w)) → (w : ℕ × OwnDefinition) × Member w (x ∷ xs) × (y ≡ save_of w)
      go true k ih = member-elim y (save_of x) (saves_of xs) (λ e. (x, first, e)) ih k
      go false k ih = ih k

  pub save-in : (xs : List (ℕ × OwnDefinition)) (x : ℕ × OwnDefinition) → Member x xs → is_live_behind s x.1.by x.1.index ≡ true → Member (save_of x) (saves_of xs)
  save-in [] x m live = absurd (member-none x m)
  save-in (y ∷ xs) x m live =
      member-elim x y xs
      (λ e. subst (λ b. Member (save_of x) (cond b (save_of y ∷ saves_of xs) (saves_of xs))) (sym (ap (λ (v : ℕ × OwnDefinition). is_live_behind s v.1.by v.1.index) (sym e) ∙ live)) (subst (λ v. Member (save_of x) (save_of v ∷ saves_of xs)) e first))
      (λ k. go (is_live_behind s y.1.by y.1.index) (save-in xs x k live)) m
    where
      go : (b : Bool) → Member (save_of x) (saves_of xs) → Member (save_of x) (cond b (save_of y ∷ saves_of xs) (saves_of xs))
      go true k = later k
      go false k = k

  module _ (h : HasTinies s g n p) where
    abbrev z : Seats
    z = seats_from s n p

    tied-item : (x : ℕ × OwnDefinition) → Member x z.definitions → item_of t g c (reload t x.1.class (plain_definition (Virtual x.0) None) (in_own_slot s x.1.index)) ≡ Silent [] (load_writes (tied_load x))
    tied-item x m =
        let w = definition-sized s g n p h x m in
        let o = plain_definition (Virtual x.0) None in
        let y = reload t x.1.class o (in_own_slot s x.1.index) in
        let ks = own_lanes s x.1.index in
        let many : length (range_widths t g x.0) ≡ length (map (home s) ks) = ap length w.wide ∙ (length-map ks (width s) ∙ sym (length-map ks (home s))) in
        reload-item s g c y o x.1.index refl w.wide (ap (λ q. effect_of t (reload t q o (in_own_slot s x.1.index))) w.is ∙ reload-effect t w.class w.known o (in_own_slot s x.1.index)) refl
        ∙ ap (λ k. Silent [] (moved (is_early_clobber (roles_of t y)) (lanes_by x.0 (numbers 0 k)) (map (home s) ks))) many

    -- a tied use names the lanes that its definition names
    tied-index : (x : ℕ × OwnDefinition) → Member x z.definitions → (q : TiedPair) → Member q (tied_uses x) → q.tied_use.index ≡ x.1.index
    tied-index x m q mq =
        let y = site-of s g n p h x m in
        let d = y.defines in
        let a = filter-of (λ (q : TiedPair). nat_eq q.number x.1.number) q (tied_readings s x.1.by) mq in
        let b = (filter-of (λ (q : TiedPair). is_own s q.tied_use && not q.tied_use.undef) q (tied_pairs t x.1.by) a.0).0 in
        let w = pair-shares s g n p h y.instr y.inside q (subst (λ j. Member q (tied_pairs t j)) d.by b) in
        let at = at-number s g n p h y.instr y.inside x.1.number d.role d.operand d.among in
        let same : q.definition ≡ d.operand = some-same q.definition d.operand (sym w.at ∙ (ap (λ k. register_at y.instr.operands k) (eqb-true q.number x.1.number a.1) ∙ at)) in
        sym w.index ∙ (ap (λ (o : RegOp). o.index) same ∙ sym d.index)

    ties-items : (xs : List (ℕ × OwnDefinition)) → ((x : ℕ × OwnDefinition) → Member x xs → Member x z.definitions) → map (item_of t g c) (flat_map (tied_reload s) xs) ≡ silents (map load_writes (tied_loads xs))
    ties-items [] inside = refl
    ties-items (x ∷ xs) inside =
        map-append (item_of t g c) (tied_reload s x) (flat_map (tied_reload s) xs)
        ∙ ((λ k. each (tied_uses x) (λ q m. tied-index x (inside x first) q m) k ++ ties-items xs (λ y m. inside y (later m)) k)
        ∙ sym (both (map (λ (q : TiedPair). tied_load x) (tied_uses x)) (tied_loads xs)))
      where
        each : (qs : List TiedPair) → ((q : TiedPair) → Member q qs → q.tied_use.index ≡ x.1.index)
            → map (item_of t g c) (map (λ (q : TiedPair). reload s.target x.1.class (plain_definition (Virtual x.0) None) (in_own_slot s q.tied_use.index)) qs) ≡ silents (map load_writes (map (λ (q : TiedPair). tied_load x) qs))
        each [] index = refl
        each (q ∷ qs) index =
            λ k. (ap (λ j. item_of t g c (reload s.target x.1.class (plain_definition (Virtual x.0) None) (in_own_slot s j))) (index q first) ∙ tied-item x (inside x first)) k ∷ each qs (λ y m. index y (later m)) k

        both : (xs ys : List Load) → silents (map load_writes (xs ++ ys)) ≡ silents (map load_writes xs) ++ silents (map load_writes ys)
        both [] ys = refl
        both (y ∷ xs) ys = ap (λ is. Silent [] (load_writes y) ∷ is) (both xs ys)

    saves-items : (xs : List (ℕ × OwnDefinition)) → ((x : ℕ × OwnDefinition) → Member x xs → Member x z.definitions) → map (item_of t g c) (flat_map (stored s) xs) ≡ silents (map (save_writes s) (saves_of xs))
    saves-items [] inside = refl
    saves-items (x ∷ xs) inside = go (is_live_behind s x.1.by x.1.index) (saves-items xs (λ y m. inside y (later m)))
      where
        one : item_of t g c (store t x.1.class (plain_use (Virtual x.0) None) (in_own_slot s x.1.index)) ≡ Silent [] (save_writes s (save_of x))
        one =
            let w = definition-sized s g n p h x (inside x first) in
            ap (λ q. item_of t g c (store t q (plain_use (Virtual x.0) None) (in_own_slot s x.1.index))) w.is ∙ (tiny_moves s g c x.0 w.class x.1.index w.known w.wide).0

        go : (b : Bool) → map (item_of t g c) (flat_map (stored s) xs) ≡ silents (map (save_writes s) (saves_of xs))
            → map (item_of t g c) (cond b (store s.target x.1.class (plain_use (Virtual x.0) None) (in_own_slot s x.1.index) ∷ []) [] ++ flat_map (stored s) xs) ≡ silents (map (save_writes s) (cond b (save_of x ∷ saves_of xs) (saves_of xs)))
        go true ih = λ k. one k ∷ ih k
        go false ih = ih

    pub behind-items : map (item_of t g c) (place_change s n p).behind ≡ silents (map (save_writes s) (saves_of z.definitions))
    behind-items = saves-items z.definitions (λ x m. m)

    module _ (gives : GivesAll z.ways) where
      abbrev pub loads : List Load
      loads = way_loads z.ways gives ++ tied_loads z.definitions

      pub before-items : map (item_of t g c) (place_change s n p).before ≡ silents (map load_writes loads)
      before-items =
          map-append (item_of t g c) (map (given s p) z.ways) (flat_map (tied_reload s) z.definitions)
          ∙ ((λ k. ways-items z.ways gives k ++ ties-items z.definitions (λ x m. m) k)
          ∙ sym (both (way_loads z.ways gives) (tied_loads z.definitions)))
        where
          both : (xs ys : List Load) → silents (map load_writes (xs ++ ys)) ≡ silents (map load_writes xs) ++ silents (map load_writes ys)
          both [] ys = refl
          both (y ∷ xs) ys = ap (λ is. Silent [] (load_writes y) ∷ is) (both xs ys)

      abbrev last_way : ℕ
      last_way = n + length (ways_read s p)

      -- each is of a way or of a definition
      pub data Kind (l : Load) : Type 0 where
        of_way : (x : ℕ × Variable) → Member x z.ways → (y : GivesLoad s g c p x) → l ≡ y.load → Member l (way_loads z.ways gives) → Kind l
        of_tie : (x : ℕ × OwnDefinition) → Member x z.definitions → l ≡ tied_load x → Kind l

      pub kind : (l : Load) → Member l loads → Kind l
      kind l m =
          either-elim l (way_loads z.ways gives) (tied_loads z.definitions)
          (λ k. let w = load-of-way z.ways gives l k in of_way w.way w.inside w.gives w.is k)
          (λ k. let w = load-of-tie z.definitions l k in of_tie w.0 w.1 w.2) m

      pub loads-further : (l : Load) → Member l loads → length s.func.classes ≤ l.tiny
      loads-further l m = by (kind l m)
        where
          by : Kind l → length s.func.classes ≤ l.tiny
          by (of_way x mx y e k) =
              let a : l.tiny ≡ x.0 = ap (λ (q : Load). q.tiny) e ∙ y.tiny in
              let b = low-number n (ways_read s p) x mx in
              let f = h.further in
              omega (arith, a, b, f)
          by (of_tie x mx e) =
              let a : l.tiny ≡ x.0 = ap (λ (q : Load). q.tiny) e in
              let b = low-number (n + length (ways_read s p)) (definitions_in s p) x mx in
              let f = h.further in
              omega (arith, a, b, f)

      pub loads-once : (l m : Load) → Member l loads → Member m loads → l.tiny ≡ m.tiny → l ≡ m
      loads-once l m a b e = by (kind l a) (kind m b)
        where
          apart : (x : ℕ × Variable) (y : ℕ × OwnDefinition) → Member x z.ways → Member y z.definitions → x.0 ≡ y.0 → ⊥
          apart x y mx my q =
              let u = high-number n (ways_read s p) x mx in
              let v = low-number (n + length (ways_read s p)) (definitions_in s p) y my in
              omega (arith, u, v, q)

          by : Kind l → Kind m → l ≡ m
          by (of_way x mx y q k) (of_way x' mx' y' q' k') = ways-once n (ways_read s p) gives l m k k' e
          by (of_way x mx y q k) (of_tie x' mx' q') = absurd (apart x x' mx mx' (sym (ap (λ (w : Load). w.tiny) q ∙ y.tiny) ∙ (e ∙ ap (λ (w : Load). w.tiny) q')))
          by (of_tie x mx q) (of_way x' mx' y' q' k') = absurd (apart x' x mx' mx (sym (ap (λ (w : Load). w.tiny) q' ∙ y'.tiny) ∙ (sym e ∙ ap (λ (w : Load). w.tiny) q)))
          by (of_tie x mx q) (of_tie x' mx' q') =
              let tiny : x.0 ≡ x'.0 = sym (ap (λ (w : Load). w.tiny) q) ∙ (e ∙ ap (λ (w : Load). w.tiny) q') in
              let one : x.1 ≡ x'.1 = one-number (n + length (ways_read s p)) (definitions_in s p) x.0 x.1 x'.1 mx (subst (λ k. Member (k, x'.1) z.definitions) (sym tiny) mx') in
              q ∙ ((λ k. tied_load (tiny k, one k)) ∙ sym q')

      pub loads-plain : (l : Load) (q : Source) → Member l loads → Member q l.sources → IsPlain q
      loads-plain l q m mq = by (kind l m)
        where
          by : Kind l → IsPlain q
          by (of_way x mx y e k) = y.plain q (subst (λ (w : Load). Member q w.sources) e mq)
          by (of_tie x mx e) = let w = map-of (home s) q (own_lanes s x.1.index) (subst (λ (w : Load). Member q w.sources) e mq) in subst IsPlain (sym w.2) tt

    pub saves-further : (y : Save) → Member y (saves_of z.definitions) → length s.func.classes ≤ y.tiny
    saves-further y m =
        let w = save-from z.definitions y m in
        let a : y.tiny ≡ w.0.0 = ap (λ (q : Save). q.tiny) w.2 in
        let b = low-number (n + length (ways_read s p)) (definitions_in s p) w.0 w.1 in
        let f = h.further in
        omega (arith, a, b, f)

    -- a tiny is stored to one list of lanes
    pub save-alone : (x : ℕ × OwnDefinition) → Member x z.definitions → (y : Save) → Member y (saves_of z.definitions) → y.tiny ≡ x.0 → y.lanes ≡ own_lanes s x.1.index
    save-alone x mx y m e =
        let w = save-from z.definitions y m in
        let tiny : x.0 ≡ w.0.0 = sym e ∙ ap (λ (q : Save). q.tiny) w.2 in
        let one : x.1 ≡ w.0.1 = one-number (n + length (ways_read s p)) (definitions_in s p) x.0 x.1 w.0.1 mx (subst (λ k. Member (k, w.0.1) z.definitions) (sym tiny) w.1) in
        ap (λ (q : Save). q.lanes) w.2 ∙ ap (λ (d : OwnDefinition). own_lanes s d.index) (sym one)
