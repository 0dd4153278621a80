-- A counted instruction with tinies in place of the range: it reads tinies that were loaded, and writes tinies, in place of the range's lanes.
use Rattle.std.proofs.Common.{◌≡◌, ◌≤◌, ◌⊎◌, inl, inr, ◌∷◌, ◌∙◌, ◌&&◌, not, ℕ, suc, Bool, true, false, cond, List, Option, Some, None, length, map, refl, sym, ap, subst, arith, []}
use Rattle.std.proofs.lemmas.List.{length-map}
use Rattle.std.specs.Prelude.{option_and_then}
use Rattle.target_base.specs.declared.types.Effect.{Effect}
use Rattle.target_base.specs.declared.types.Role.{Role}
use Rattle.target_base.specs.declared.types.Target.{Target}
use Rattle.target_base.proofs.Tests.{first_of_both}
use Rattle.meaning.specs.Lanes.{Reads, Writes, filled}
use Rattle.meaning.specs.Live.{Among as Member, here as first, there as later, is_slot}
use Rattle.meaning.specs.Relations.{AlikeOperands, AlikeReads, Rel}
use Rattle.meaning.specs.declared.types.Constant.{Constant}
use Rattle.meaning.specs.declared.types.Fill.TheVariants.{Moved}
use Rattle.meaning.specs.declared.types.Lane.{Lane}
use Rattle.meaning.specs.declared.types.Lane.TheVariants.{SlotLane, UnitLane, VirtualLane}
use Rattle.meaning.specs.declared.types.Source.{Source}
use Rattle.meaning.specs.declared.types.Source.TheVariants.{Bits, FromLane, Undef}
use Rattle.meaning.specs.declared.types.Write.{Write}
use Rattle.laws.proofs.Flow.{lane-inj}
use Rattle.mir_func.specs.declared.func.Loc.TheVariants.{Virtual}
use Rattle.mir_func.specs.declared.func.RegOp.{RegOp}
use Rattle.mir_func.specs.declared.func.Operand.{Operand}
use Rattle.mir_func.specs.declared.func.Operand.TheVariants as operands
use Rattle.mir_func.specs.declared.func.Instr.{Instr}
use Rattle.mir_func.specs.Value.{Function}
use Rattle.mir_func.specs.Binding.{Bound, Definition, definition_in, definitions, explicit_bound, explicit_operands, explicit_roles, implicit_registers, is_definition, is_early, numbered, passes, registers, roles_of, takes_many, tied_number}
use Rattle.mir_meaning.specs.Items.{counted_writes, further_writes, results, values}
use Rattle.mir_meaning.specs.Registers.{located_lanes, numbers, operand_lanes, operand_widths, range_widths, undefined_lanes, use_sources, whole_lanes}
use Rattle.mir_meaning.specs.Renaming.{IsFixed}
use Rattle.instr_effects.proofs.Members.{either-elim, left-in, map-in, map-of, member-elim, member-none, right-in}
use Rattle.lowering_laws.specs.Form.{is_undef_definition}
use Rattle.lowering_laws.proofs.Places.{InPlace, Replaces, further-same, reads-alike}
use Rattle.lowering_laws.proofs.RulesStay.{lanes, same-register, widths}
use Rattle.lowering_laws.proofs.Seated.{told-in, told-of}
use Rattle.lowering_laws.proofs.Silently.{lanes-count}
use Rattle.live_laws.proofs.Effects.Moving.{some-same}
use Rattle.live_laws.proofs.Effects.Shapes.{class-there}
use Rattle.spiller.specs.Setting.{Spilling, is_own, own_lanes}
use Rattle.spiller.specs.Spilled.{Seats, as_tiny, numbered_operands, seated, seated_operand, seats_from, spilled, tiny_defined, tiny_of, tiny_read}
use Rattle.spiller.specs.Rematerialised.{ways_read}
use Rattle.mir_meaning.specs.Places.{Variable}
use Rattle.spill_laws.specs.Laws.{HasTinies}
use Rattle.spill_laws.proofs.CopyPlaces.{none-of}
use Rattle.spill_laws.proofs.Ranges.{numbered-of}
use Rattle.spill_laws.proofs.SlotPlaces.{width}
use Rattle.spill_laws.proofs.SpillItems.{lane-slotless, other-beside, own-lanes-are, own-widths-are}
use Rattle.spill_laws.proofs.TinyApart.{none-before}
use Rattle.spill_laws.proofs.TinyRules.{last, operand-there, own-explicit}
use Rattle.spill_laws.proofs.Touched.{UndefsFixed}
use Rattle.spill_laws.proofs.Turned.{after, bound-after, explicit-after, explicit-number, others-stay, seat, turned}
use Rattle.clear_laws.proofs.CountedItems.{FromDefinition, filled-wrote, further-fits, results-in, results-of}
use Rattle.clear_laws.proofs.PlaceBounds.{Wrote, unwritten, wrote-or-not}
use Rattle.clear_laws.proofs.Seated.{IsFurther}
use Rattle.clear_laws.proofs.SilentForms.{IsFine, beside-fine, not-fine}
use Rattle.clear_laws.proofs.TinyPlaces.{DefinedTiny, HasWidths, IsOwn, TiedTo, explicit-own, numbered-in, tied-to, tiny-at, undef-tied, way-at}
use Rattle.lowering_laws.proofs.Seated.{register-in}

-- lists of sources side by side

alike-by : (Q : Rel) (ss us : List Source) → length ss ≡ length us → ((a u : Source) → Member u us → Q a u) → AlikeReads Q ss us
alike-by Q [] [] e h = tt
alike-by Q [] (u ∷ us) e h = absurd (omega (arith, e))
alike-by Q (a ∷ ss) [] e h = absurd (omega (arith, e))
alike-by Q (a ∷ ss) (u ∷ us) e h = (h a u first, alike-by Q ss us (omega (arith, e)) (λ b w m. h b w (later m)))

pub alike-self : (Q : Rel) (ss : List Source) → ((u : Source) → Member u ss → Q u u) → AlikeReads Q ss ss
alike-self Q [] h = tt
alike-self Q (u ∷ ss) h = (h u first, alike-self Q ss (λ w m. h w (later m)))

alike-source : (Q : Rel) (ss us : List Source) → AlikeReads Q ss us → (u : Source) → Member u us → (a : Source) × Member a ss × Q a u
alike-source Q [] [] z u m = absurd (member-none u m)
alike-source Q [] (w ∷ us) z u m = absurd z
alike-source Q (a ∷ ss) [] z u m = absurd z
alike-source Q (a ∷ ss) (w ∷ us) z u m = member-elim u w us (λ e. (a, first, subst (Q a) (sym e) z.0)) (λ k. let y = alike-source Q ss us z.1 u k in (y.0, later y.1, y.2)) m

pub alike-operand : (Q : Rel) (xs ys : Reads) → AlikeOperands Q xs ys → (us : List Source) (u : Source) → Member us ys → Member u us → (ss : List Source) × (a : Source) × Member ss xs × Member a ss × Q a u
alike-operand Q [] [] z us u m n = absurd (member-none us m)
alike-operand Q [] (y ∷ ys) z us u m n = absurd z
alike-operand Q (x ∷ xs) [] z us u m n = absurd z
alike-operand Q (x ∷ xs) (y ∷ ys) z us u m n =
    member-elim us y ys
    (λ e. let w = alike-source Q x y z.0 u (subst (Member u) e n) in (x, w.0, first, w.1, w.2))
    (λ k. let w = alike-operand Q xs ys z.1 us u k n in (w.0, w.1, later w.2, w.3, w.4)) m

module _ (s : Spilling) (c : ℕ) (p : List Instr) (h : HasTinies s (spilled s) c p) (i : Instr) (mi : Member i p) (fixed : UndefsFixed s.target i) (loads : List Writes) where
  abbrev t : Target
  t = s.target

  abbrev f : Function
  f = s.func

  abbrev g : Function
  g = spilled s

  abbrev z : Seats
  z = seats_from s c p

  abbrev os : List Operand
  os = i.operands

  abbrev es : List Role
  es = explicit_roles (roles_of s.target i)

  -- a load writes the lane
  abbrev pub IsLoaded : Lane → Type 0
  IsLoaded l = (ws : Writes) × Member ws loads × Wrote ws l

  abbrev pub Own : ℕ → Option Role → RegOp → Type 0
  Own k q o = IsOwn s g c p h i mi k q o

  -- all lanes of a tiny are loaded
  abbrev pub AllLoaded : ℕ → Type 0
  AllLoaded n = (l : Lane) → Member l (located_lanes s.target (spilled s) (Virtual n) None) → IsLoaded l

  -- what stands in the place of an operand
  pub data Seat (k : ℕ) (q : Option Role) (o o' : RegOp) : Type 0 where
    other : is_own s o ≡ false → o' ≡ o → Seat k q o o'
    tiny : (n : ℕ) (own : Own k q o) → HasWidths s g c p h i mi k q o own n → (o.def ≡ false → o.undef ≡ false → AllLoaded n) → o' ≡ as_tiny o n → Seat k q o o'

  module _ (ways : (n : ℕ) (v : Variable) → Member (n, v) z.ways → Member v (ways_read s p) → AllLoaded n)
      (ties : (k : ℕ) (q : Option Role) (o : RegOp) (own : Own k q o) (j : ℕ) (w : TiedTo s g c p h i mi k q o own j) (n : ℕ) → o.def ≡ false → o.undef ≡ false → DefinedTiny s g c p h i mi j w.role w.operand w.is n → AllLoaded n) where
    seated-as : (k : ℕ) (q : Option Role) (o : RegOp) (n : ℕ) → is_own s o ≡ true → tiny_of s z i k q o ≡ Some n → seated s z i k q o ≡ as_tiny o n
    seated-as k q o n own e = λ j. cond (own j) (elim (e j) as (λ x. RegOp) [ None ↦ o | Some m ↦ as_tiny o m ]) o

    pub seat-at : (k : ℕ) (q : Option Role) (o : RegOp) → Member (k, (q, operands.Reg o)) (numbered_operands t i) → Seat k q o (seated s z i k q o)
    seat-at k q o m = go (is_own s o) refl
      where
        defined : (own : Own k q o) → o.def ≡ true → Seat k q o (seated s z i k q o)
        defined own d =
            let y = tiny-at s g c p h i mi k q o own d in
            tiny y.0 own y.2.has (λ u. absurd (cc)) (seated-as k q o y.0 own.own ((λ j. cond (d j) (tiny_defined z i k) (elim (option_and_then tied_number q) as (λ x. Option ℕ) [ None ↦ cond o.undef None (tiny_read s z q o) | Some n ↦ tiny_defined z i n ])) ∙ y.1))

        used : (own : Own k q o) → o.def ≡ false → (x : Option ℕ) → option_and_then tied_number q ≡ x → Seat k q o (seated s z i k q o)
        used own d (Some j) e =
            let w = tied-to s g c p h i mi k q o own j e in
            let y = tiny-at s g c p h i mi j w.role w.operand w.is w.def in
            let has = y.2.has in
            tiny y.0 own (record { class = has.class; is = has.is; known = has.known; wide = has.wide ∙ ap (λ x. map (width s) (own_lanes s x)) w.index; further = has.further })
            (λ u v. ties k q o own j w y.0 u v y.2)
            (seated-as k q o y.0 own.own ((λ x. cond (d x) (tiny_defined z i k) (elim (e x) as (λ x. Option ℕ) [ None ↦ cond o.undef None (tiny_read s z q o) | Some n ↦ tiny_defined z i n ])) ∙ y.1))
        used own d None e = by o.undef refl
          where
            by : (b : Bool) → o.undef ≡ b → Seat k q o (seated s z i k q o)
            by true u = absurd (undef-tied s g c p h i mi k q o own fixed d u e)
            by false u =
                let y = way-at s g c p h i mi k q o own d u e in
                tiny y.0 own y.2.has (λ a b. ways y.0 y.2.way y.2.among y.2.read)
                (seated-as k q o y.0 own.own ((λ x. cond (d x) (tiny_defined z i k) (elim (e x) as (λ x. Option ℕ) [ None ↦ cond (u x) None (tiny_read s z q o) | Some n ↦ tiny_defined z i n ])) ∙ y.1))

        by-def : (own : Own k q o) → (b : Bool) → o.def ≡ b → Seat k q o (seated s z i k q o)
        by-def own true d = defined own d
        by-def own false d = used own d (option_and_then tied_number q) refl

        go : (b : Bool) → is_own s o ≡ b → Seat k q o (seated s z i k q o)
        go false e = other e (others-stay s z i k q o e)
        go true e = by-def (record { among = m; own = e }) o.def refl

    -- operands side by side

    abbrev pub Q : Rel
    Q a u = (l : Lane) → u ≡ FromLane l → (IsFine s l × (a ≡ FromLane l)) ⊎ (IsFurther f l × IsLoaded l)

    abbrev None-comes : Lane → Lane → Type 0
    None-comes a b = ⊥

    lane-source : (a b : Lane) → FromLane a ≡ FromLane b → a ≡ b
    lane-source a b e = cc

    plain-definition : (o : RegOp) → Member o (registers os) → o.def ≡ true → o.undef ≡ false
    plain-definition o m d = by o.def o.undef d (none-of is_undef_definition o (registers os) (none-before t i (h.lowered i mi)) m)
      where
        by : (x y : Bool) → x ≡ true → (x && y) ≡ false → y ≡ false
        by true y h e = e
        by false y h e = absurd (cc)

    -- lanes of another register are of the function
    other-fine : (o : RegOp) → Member o (registers os) → is_own s o ≡ false → (a : Lane) → Member a (operand_lanes t g o) → IsFine s a
    other-fine o m e a n =
        let k = class-there t f i (h.shaped i mi) o m in
        beside-fine s a (other-beside s o.loc o.index e k a (subst (Member a) (lanes t f g h.keeps o.loc o.index k) n))

    use-self : (o : RegOp) → ((a : Lane) → Member a (operand_lanes t g o) → IsFine s a) → AlikeReads Q (use_sources t g o) (use_sources t g o)
    use-self o fine = alike-self Q (use_sources t g o) (λ u m l e. go o.undef u l m e)
      where
        go : (b : Bool) (u : Source) (l : Lane) → Member u (map (cond b (λ a. Undef) FromLane) (operand_lanes t g o)) → u ≡ FromLane l → (IsFine s l × (u ≡ FromLane l)) ⊎ (IsFurther f l × IsLoaded l)
        go true u l m e = absurd (let y = map-of (λ (a : Lane). Undef) u (operand_lanes t g o) m in let q : Undef ≡ FromLane l = sym y.2 ∙ e in cc)
        go false u l m e = let y = map-of FromLane u (operand_lanes t g o) m in inl (subst (IsFine s) (lane-source y.0 l (sym y.2 ∙ e)) (fine y.0 y.1), e)

    in-place : (k : ℕ) (q : Option Role) (o o' : RegOp) → Member o (registers os) → Seat k q o o' → InPlace t g Q None-comes o o'
    in-place k q o o' m (other e is) = subst (InPlace t g Q None-comes o) (sym is) (record {
      def = refl;
      implicit = refl;
      widths = refl;
      stays = λ e. refl;
      reads = λ u. use-self o (other-fine o m e);
      clear = λ d. plain-definition o m (first_of_both o.def (not o.implicit) d);
      lanes = λ d a a' y. absurd y;
    })
    in-place k q o o' m (tiny n own w loaded is) = subst (InPlace t g Q None-comes o) (sym is) (record {
      def = refl;
      implicit = sym (explicit-own s g c p h i mi k q o own);
      widths = wide;
      stays = λ e. absurd (let a = explicit-own s g c p h i mi k q o own in cc);
      reads = λ u. reads u;
      clear = λ d. λ j. not (first_of_both o.def (not o.implicit) d j) && o.undef;
      lanes = λ d a a' y. absurd y;
    })
      where
        wide : operand_widths t g (as_tiny o n) ≡ operand_widths t g o
        wide = w.wide ∙ (sym (own-widths-are s o own.own) ∙ sym (widths t f g h.keeps o.loc o.index (class-there t f i (h.shaped i mi) o m)))

        as-long : length (use_sources t g o) ≡ length (use_sources t g (as_tiny o n))
        as-long =
            length-map (operand_lanes t g o) (cond o.undef (λ a. Undef) FromLane)
            ∙ (lanes-count t g o.loc o.index ∙ (ap length (sym wide) ∙ (sym (lanes-count t g (Virtual n) None) ∙ sym (length-map (operand_lanes t g (as_tiny o n)) (cond (as_tiny o n).undef (λ a. Undef) FromLane)))))

        reads : o.def ≡ false → AlikeReads Q (use_sources t g o) (use_sources t g (as_tiny o n))
        reads d = alike-by Q (use_sources t g o) (use_sources t g (as_tiny o n)) as-long (λ a u k l e. by o.undef refl a u l k e)
          where
            by : (b : Bool) → o.undef ≡ b → (a u : Source) (l : Lane) → Member u (use_sources t g (as_tiny o n)) → u ≡ FromLane l → (IsFine s l × (a ≡ FromLane l)) ⊎ (IsFurther f l × IsLoaded l)
            by true y a u l k e =
                let x = map-of (λ (a : Lane). Undef) u (operand_lanes t g (as_tiny o n)) (subst (λ b. Member u (map (cond b (λ a. Undef) FromLane) (operand_lanes t g (as_tiny o n)))) (λ j. not (d j) && y j) k) in
                absurd (let q : Undef ≡ FromLane l = sym x.2 ∙ e in cc)
            by false y a u l k e =
                let x = map-of FromLane u (operand_lanes t g (as_tiny o n)) (subst (λ b. Member u (map (cond b (λ a. Undef) FromLane) (operand_lanes t g (as_tiny o n)))) (λ j. not (d j) && y j) k) in
                let lane = lane-source x.0 l (sym x.2 ∙ e) in
                let v = map-of (VirtualLane n) x.0 (numbers 0 (length (range_widths t g n))) x.1 in
                inr ((n, v.0, sym lane ∙ v.2, w.further), subst IsLoaded lane (loaded d y x.0 x.1))

    one-more : (k : ℕ) (q : Option Role) (x : Operand) (xs ys : List Operand) → ((o : RegOp) → x ≡ operands.Reg o → InPlace t g Q None-comes o (seated s z i k q o)) → Replaces t g Q None-comes xs ys → Replaces t g Q None-comes (x ∷ xs) (turned s z i k q x ∷ ys)
    one-more k q (operands.Reg o) xs ys h r = Replaces.register (h o refl) r
    one-more k q (operands.Imm y) xs ys h r = Replaces.other refl r
    one-more k q (operands.Block y) xs ys h r = Replaces.other refl r
    one-more k q (operands.Stack y) xs ys h r = Replaces.other refl r
    one-more k q (operands.FixedStack y) xs ys h r = Replaces.other refl r
    one-more k q (operands.Symbol y) xs ys h r = Replaces.other refl r
    one-more k q (operands.Index y) xs ys h r = Replaces.other refl r
    one-more k q (operands.Mask y) xs ys h r = Replaces.other refl r

    replaces-from : (m : ℕ) (rs : List Role) (xs : List Operand) → ((k : ℕ) (q : Option Role) (o : RegOp) → Member (k, (q, operands.Reg o)) (numbered m (explicit_bound rs xs)) → InPlace t g Q None-comes o (seated s z i k q o)) → Replaces t g Q None-comes xs (after s z i m rs xs)
    replaces-from m rs [] h = Replaces.none
    replaces-from m [] (x ∷ xs) h = one-more m None x xs (after s z i (suc m) [] xs) (λ o e. h m None o (subst (λ y. Member (m, (None, y)) (numbered m (explicit_bound [] (x ∷ xs)))) e first)) (replaces-from (suc m) [] xs (λ k q o n. h k q o (later n)))
    replaces-from m (r ∷ rs) (x ∷ xs) h =
        let rest = cond (takes_many r) (r ∷ rs) rs in
        one-more m (Some r) x xs (after s z i (suc m) rest xs) (λ o e. h m (Some r) o (subst (λ y. Member (m, (Some r, y)) (numbered m (explicit_bound (r ∷ rs) (x ∷ xs)))) e first)) (replaces-from (suc m) rest xs (λ k q o n. h k q o (later n)))

    register-at : (k : ℕ) (q : Option Role) (o : RegOp) → Member (k, (q, operands.Reg o)) (numbered_operands t i) → Member o (registers os)
    register-at k q o m = register-in o os (operand-there s g c p h i mi k q o m)

    abbrev pub now-operands : List Operand
    now-operands = after s (seats_from s c p) i 0 (explicit_roles (roles_of s.target i)) i.operands

    all-replaced : Replaces t g Q None-comes os now-operands
    all-replaced = replaces-from 0 es os (λ k q o m. in-place k q o (seated s z i k q o) (register-at k q o m) (seat-at k q o m))

    -- explicit definitions side by side

    abbrev pub defined-before : List Definition
    defined-before = definitions (roles_of s.target i) i.operands

    abbrev pub defined-now : List Definition
    defined-now = definitions (roles_of s.target i) now-operands

    bound-now : explicit_bound es (explicit_operands now-operands) ≡ map (seat s z i) (numbered 0 (explicit_bound es (explicit_operands os)))
    bound-now = ap (explicit_bound es) (explicit-after s z i 0 es os (own-explicit s g c p h i mi) (last s g c p h i mi)) ∙ bound-after s z i 0 es (explicit_operands os)

    -- an explicit definition and what stands in its place
    pub record Beside (d d' : Definition) : Type 0 where
      pub early : d'.0 ≡ d.0
      pub k : ℕ
      pub q : Option Role
      pub among : Member (k, (q, operands.Reg d.1)) (numbered_operands t i)
      pub is : is_definition d.1 ≡ true
      pub seat : Seat k q d.1 d'.1

    definition-told : (r : Option Role) (x : Operand) (d : Definition) → definition_in (r, x) ≡ Some d → (x ≡ operands.Reg d.1) × (is_definition d.1 ≡ true) × (d.0 ≡ passes is_early r)
    definition-told r (operands.Reg o) d e = go (is_definition o) refl e
      where
        go : (b : Bool) → is_definition o ≡ b → cond b (Some (passes is_early r, o)) None ≡ Some d → (operands.Reg o ≡ operands.Reg d.1) × (is_definition d.1 ≡ true) × (d.0 ≡ passes is_early r)
        go true g e = let w = some-same (passes is_early r, o) d e in (ap (λ (y : Definition). operands.Reg y.1) w, subst (λ (y : Definition). is_definition y.1 ≡ true) w g, ap (λ (y : Definition). y.0) (sym w))
        go false g e = absurd (cc)
    definition-told r x d e = absurd (cc)

    same-kind : (k : ℕ) (q : Option Role) (o o' : RegOp) → Member o (registers os) → Seat k q o o' → is_definition o' ≡ is_definition o
    same-kind k q o o' m w = let y = in-place k q o o' m w in λ j. y.def j && not (y.implicit j)

    in-numbered : (k : ℕ) (q : Option Role) (x : Operand) → Member (k, (q, x)) (numbered 0 (explicit_bound es (explicit_operands os))) → Member (k, (q, x)) (numbered_operands t i)
    in-numbered k q x m = explicit-number s z i 0 es os (last s g c p h i mi) (k, (q, x)) m

    pub now-of : (d' : Definition) → Member d' defined-now → (d : Definition) × Member d defined-before × Beside d d'
    now-of d' m = go (told-of definition_in d' (explicit_bound es (explicit_operands now-operands)) m)
      where
        at : (k : ℕ) (q : Option Role) (x : Operand) → Member (k, (q, x)) (numbered 0 (explicit_bound es (explicit_operands os))) → definition_in (q, seated_operand s z i (k, (q, x))) ≡ Some d' → (d : Definition) × Member d defined-before × Beside d d'
        at k q (operands.Reg o) n e =
            let w = definition-told q (operands.Reg (seated s z i k q o)) d' e in
            let same = same-register (seated s z i k q o) d'.1 w.0 in
            let there = in-numbered k q (operands.Reg o) n in
            let st = seat-at k q o there in
            let is : is_definition o ≡ true = sym (same-kind k q o (seated s z i k q o) (register-at k q o there) st) ∙ (ap is_definition same ∙ w.1) in (
              (passes is_early q, o),
              told-in definition_in (passes is_early q, o) (q, operands.Reg o) (explicit_bound es (explicit_operands os)) (numbered-of 0 (explicit_bound es (explicit_operands os)) (k, (q, operands.Reg o)) n) (λ j. cond (is j) (Some (passes is_early q, o)) None),
              record { early = w.2; k = k; q = q; among = there; is = is; seat = subst (Seat k q o) same st },
            )
        at k q x n e = absurd (cc)

        go : (y : Bound) × Member y (explicit_bound es (explicit_operands now-operands)) × (definition_in y ≡ Some d') → (d : Definition) × Member d defined-before × Beside d d'
        go w =
            let y = map-of (seat s z i) w.0 (numbered 0 (explicit_bound es (explicit_operands os))) (subst (Member w.0) bound-now w.1) in
            at y.0.0 y.0.1.0 y.0.1.1 y.1 (ap definition_in (sym y.2) ∙ w.2)

    pub before-of : (d : Definition) → Member d defined-before → (d' : Definition) × Member d' defined-now × Beside d d'
    before-of d m =
        let w = told-of definition_in d (explicit_bound es (explicit_operands os)) m in
        let y = numbered-in 0 (explicit_bound es (explicit_operands os)) w.0 w.1 in
        let told = definition-told w.0.0 w.0.1 d w.2 in
        let n : Member (y.0, (w.0.0, operands.Reg d.1)) (numbered 0 (explicit_bound es (explicit_operands os))) = subst (λ x. Member (y.0, (w.0.0, x)) (numbered 0 (explicit_bound es (explicit_operands os)))) told.0 y.1 in
        let there = in-numbered y.0 w.0.0 (operands.Reg d.1) n in
        let st = seat-at y.0 w.0.0 d.1 there in
        let o' = seated s z i y.0 w.0.0 d.1 in
        let is : is_definition o' ≡ true = same-kind y.0 w.0.0 d.1 o' (register-at y.0 w.0.0 d.1 there) st ∙ told.1 in (
          (passes is_early w.0.0, o'),
          told-in definition_in (passes is_early w.0.0, o') (w.0.0, operands.Reg o') (explicit_bound es (explicit_operands now-operands))
              (subst (Member (w.0.0, operands.Reg o')) (sym bound-now) (map-in (seat s z i) (y.0, (w.0.0, operands.Reg d.1)) (numbered 0 (explicit_bound es (explicit_operands os))) n))
              (λ j. cond (is j) (Some (passes is_early w.0.0, o')) None),
          record { early = sym told.2; k = y.0; q = w.0.0; among = there; is = told.1; seat = st },
        )

    -- lanes of definitions

    tiny-further : (o : RegOp) (n : ℕ) (a : Lane) → length f.classes ≤ n → Member a (operand_lanes t g (as_tiny o n)) → IsFurther f a
    tiny-further o n a far m = let v = map-of (VirtualLane n) a (numbers 0 (length (range_widths t g n))) m in (n, v.0, v.2, far)

    own-lane-of : (k : ℕ) (q : Option Role) (o : RegOp) → Own k q o → Member o (registers os) → (a : Lane) → Member a (operand_lanes t g o) → (j : ℕ) × Member j (own_lanes s o.index) × (a ≡ VirtualLane s.range j)
    own-lane-of k q o own m a n =
        let x = subst (Member a) (lanes t f g h.keeps o.loc o.index (class-there t f i (h.shaped i mi) o m) ∙ own-lanes-are s o own.own) n in
        let y = map-of (VirtualLane s.range) a (own_lanes s o.index) x in
        (y.0, y.1, y.2)

    none-undefined : (d : RegOp) → d.undef ≡ false → undefined_lanes t g d ≡ []
    none-undefined d e = ap (λ y. cond (d.def && y) (whole_lanes t g d.loc) []) e ∙ ap (λ y. cond y (whole_lanes t g d.loc) []) (and-false d.def)
      where
        and-false : (b : Bool) → (b && false) ≡ false
        and-false true = refl
        and-false false = refl

    bare-before : (d : Definition) → Member d defined-before → undefined_lanes t g d.1 ≡ []
    bare-before d m =
        let y = before-of d m in
        let b = y.2 in
        none-undefined d.1 (plain-definition d.1 (register-at b.k b.q d.1 b.among) (first_of_both d.1.def (not d.1.implicit) b.is))

    bare-now : (d : Definition) → Member d defined-now → undefined_lanes t g d.1 ≡ []
    bare-now d m =
        let y = now-of d m in
        let b = y.2 in
        none-undefined d.1 ((in-place b.k b.q y.0.1 d.1 (register-at b.k b.q y.0.1 b.among) b.seat).clear b.is)

    module _ (e : Effect) (fixed-implicit : (o : RegOp) → Member o (implicit_registers os) → IsFixed o.loc) where
      abbrev pub now-instr : Instr
      now-instr = record i { operands = after s (seats_from s c p) i 0 (explicit_roles (roles_of s.target i)) i.operands }

      abbrev pub wrote-before : Writes
      wrote-before = counted_writes s.target (spilled s) e i

      abbrev pub wrote-now : Writes
      wrote-now = counted_writes s.target (spilled s) e (record i { operands = after s (seats_from s c p) i 0 (explicit_roles (roles_of s.target i)) i.operands })

      further-alike : further_writes t g e now-instr ≡ further_writes t g e i
      further-alike = further-same t g Q None-comes i now-operands all-replaced e e

      data By (ds : List Definition) (w : Write) : Type 0 where
        definition : FromDefinition t g ds w → By ds w
        beside : Member w (further_writes t g e i) → By ds w

      by-before : (w : Write) → Member w wrote-before → By defined-before w
      by-before w m = either-elim w (results t g 0 defined-before) (further_writes t g e i) (λ k. definition (results-of t g 0 defined-before bare-before w k)) (λ k. beside k) m

      by-now : (w : Write) → Member w wrote-now → By defined-now w
      by-now w m = either-elim w (results t g 0 defined-now) (further_writes t g e now-instr) (λ k. definition (results-of t g 0 defined-now bare-now w k)) (λ k. beside (subst (Member w) further-alike k)) m

      further-there : (w : Write) → Member w (further_writes t g e i) → Member w wrote-now
      further-there w m = right-in w (results t g 0 defined-now) (further_writes t g e now-instr) (subst (Member w) (sym further-alike) m)

      unit-fine : (w : Write) → Member w (further_writes t g e i) → IsFine s w.lane
      unit-fine w m = let u = (further-fits t g e i fixed-implicit w m).0 in subst (IsFine s) (sym u.1) tt

      -- a lane that it writes now it wrote before, as early; or it is a tiny's
      pub was-written : (w : Write) → Member w wrote-now → (IsFine s w.lane × ((y : Write) × Member y wrote-before × (y.lane ≡ w.lane) × (y.early ≡ w.early))) ⊎ IsFurther f w.lane
      was-written w m = go (by-now w m)
        where
          at : (x : FromDefinition t g defined-now w) (d : Definition) → Member d defined-before → (b : Beside d x.definition) → Seat b.k b.q d.1 x.definition.1 → (IsFine s w.lane × ((y : Write) × Member y wrote-before × (y.lane ≡ w.lane) × (y.early ≡ w.early))) ⊎ IsFurther f w.lane
          at x d n b (other r is) =
              let lane = subst (λ (o : RegOp). Member w.lane (operand_lanes t g o)) is x.lane in
              let y = results-in t g 0 defined-before d w.lane n lane in
              inl (other-fine d.1 (register-at b.k b.q d.1 b.among) r w.lane lane, (y.0, left-in y.0 (results t g 0 defined-before) (further_writes t g e i) y.1, y.2, y.3 ∙ (sym b.early ∙ sym x.early)))
          at x d n b (tiny k own has loaded is) = inr (tiny-further d.1 k w.lane has.further (subst (λ (o : RegOp). Member w.lane (operand_lanes t g o)) is x.lane))

          go : By defined-now w → (IsFine s w.lane × ((y : Write) × Member y wrote-before × (y.lane ≡ w.lane) × (y.early ≡ w.early))) ⊎ IsFurther f w.lane
          go (definition x) = let y = now-of x.definition x.among in at x y.0 y.1 y.2 y.2.seat
          go (beside k) = inl (unit-fine w k, (w, right-in w (results t g 0 defined-before) (further_writes t g e i) k, refl, refl))

      -- other lanes that it wrote it writes still
      pub still-written : (a : Lane) → IsFine s a → Wrote wrote-before a → Wrote wrote-now a
      still-written a fine z = go (by-before z.0 z.1)
        where
          at : (x : FromDefinition t g defined-before z.0) (d' : Definition) → Member d' defined-now → (b : Beside x.definition d') → Seat b.k b.q x.definition.1 d'.1 → Wrote wrote-now a
          at x d' n b (other r is) =
              let y = results-in t g 0 defined-now d' z.0.lane n (subst (λ (o : RegOp). Member z.0.lane (operand_lanes t g o)) (sym is) x.lane) in
              (y.0, left-in y.0 (results t g 0 defined-now) (further_writes t g e now-instr) y.1, y.2 ∙ z.2)
          at x d' n b (tiny k own has loaded is) =
              let y = own-lane-of b.k b.q x.definition.1 own (register-at b.k b.q x.definition.1 b.among) z.0.lane x.lane in
              absurd (not-fine s a y.0 (sym z.2 ∙ y.2) fine)

          go : By defined-before z.0 → Wrote wrote-now a
          go (definition x) = let y = before-of x.definition x.among in at x y.0 y.1 y.2 y.2.seat
          go (beside k) = (z.0, further-there z.0 k, z.2)

      -- it moves no lanes
      pub moves-none : (a l : Lane) → filled wrote-now a ≡ Moved (FromLane l) → (l ≡ a) × (Wrote wrote-now a → ⊥)
      moves-none a l q = go (wrote-or-not wrote-now a)
        where
          nothing : (w : Write) → By defined-now w → w.fill ≡ Moved (FromLane l) → ⊥
          nothing w (definition x) e = x.nothing l e
          nothing w (beside k) r = (further-fits t g e i fixed-implicit w k).1 l r

          go : Wrote wrote-now a ⊎ (Wrote wrote-now a → ⊥) → (l ≡ a) × (Wrote wrote-now a → ⊥)
          go (inl w) = let y = filled-wrote wrote-now a w in absurd (nothing y.0 (by-now y.0 y.1) (sym y.3 ∙ q))
          go (inr n) = (lane-inj l a (sym q ∙ unwritten wrote-now a n), n)

      -- a lane of the range that it wrote is one of a definition, for which a tiny stands now
      pub record OwnWritten (j : ℕ) : Type 0 where
        pub k : ℕ
        pub q : Option Role
        pub operand : RegOp
        pub own : Own k q operand
        pub def : operand.def ≡ true
        pub inside : Member j (own_lanes s operand.index)

      pub own-written : (j : ℕ) → Wrote wrote-before (VirtualLane s.range j) → OwnWritten j
      own-written j z = go (by-before z.0 z.1)
        where
          number : (a b c : ℕ) → VirtualLane a b ≡ VirtualLane a c → b ≡ c
          number a b c e = cc

          at : (x : FromDefinition t g defined-before z.0) (d' : Definition) (b : Beside x.definition d') → Seat b.k b.q x.definition.1 d'.1 → OwnWritten j
          at x d' b (other r is) = absurd (not-fine s z.0.lane j z.2 (other-fine x.definition.1 (register-at b.k b.q x.definition.1 b.among) r z.0.lane x.lane))
          at x d' b (tiny k own has loaded is) =
              let y = own-lane-of b.k b.q x.definition.1 own (register-at b.k b.q x.definition.1 b.among) z.0.lane x.lane in
              record { k = b.k; q = b.q; operand = x.definition.1; own = own; def = first_of_both x.definition.1.def (not x.definition.1.implicit) b.is; inside = subst (λ n. Member n (own_lanes s x.definition.1.index)) (number s.range y.0 j (sym y.2 ∙ z.2)) y.1 }

          go : By defined-before z.0 → OwnWritten j
          go (definition x) = let y = before-of x.definition x.among in at x y.0 y.2 y.2.seat
          go (beside k) = absurd (not-fine s z.0.lane j z.2 (unit-fine z.0 k))

      -- it wrote no lane of a slot
      pub wrote-no-slot : (m k w : ℕ) → Wrote wrote-before (SlotLane m k w) → ⊥
      wrote-no-slot m k w y = go (by-before y.0 y.1)
        where
          go : By defined-before y.0 → ⊥
          go (definition x) = let a = lane-slotless t g x.definition.1.loc x.definition.1.index y.0.lane x.lane in let b : is_slot y.0.lane ≡ true = ap is_slot y.2 in cc
          go (beside r) = let u = (further-fits t g e i fixed-implicit y.0 r).0 in let q : UnitLane u.0 ≡ SlotLane m k w = sym u.1 ∙ y.2 in cc

      -- what is read now was read before, or is loaded
      pub was-read : (us : List Source) (l : Lane) → Member us (map (λ v. v.0) (values t g e now-instr)) → Member (FromLane l) us → (IsFine s l × ((ss : List Source) × Member ss (map (λ v. v.0) (values t g e i)) × Member (FromLane l) ss)) ⊎ (IsFurther f l × IsLoaded l)
      was-read us l m n = go y (y.4 l refl)
        where
          bits : (b : Constant) (low w : ℕ) → Q (Bits b low w) (Bits b low w)
          bits b low w l e = absurd (cc)

          units : (u : ℕ) → Q (FromLane (UnitLane u)) (FromLane (UnitLane u))
          units u l e = inl (subst (IsFine s) (lane-source (UnitLane u) l e) tt, e)

          blank : Q Undef Undef
          blank l e = absurd (cc)

          y : (ss : List Source) × (a : Source) × Member ss (map (λ v. v.0) (values t g e i)) × Member a ss × Q a (FromLane l)
          y = alike-operand Q (map (λ v. v.0) (values t g e i)) (map (λ v. v.0) (values t g e now-instr)) (reads-alike t g Q None-comes bits units blank i now-operands all-replaced e fixed-implicit) us (FromLane l) m n

          go : (y : (ss : List Source) × (a : Source) × Member ss (map (λ v. v.0) (values t g e i)) × Member a ss × Q a (FromLane l)) → (IsFine s l × (y.1 ≡ FromLane l)) ⊎ (IsFurther f l × IsLoaded l) → (IsFine s l × ((ss : List Source) × Member ss (map (λ v. v.0) (values t g e i)) × Member (FromLane l) ss)) ⊎ (IsFurther f l × IsLoaded l)
          go x (inl w) = inl (w.0, (x.0, x.2, subst (λ u. Member u x.0) w.1 x.3))
          go x (inr w) = inr w
