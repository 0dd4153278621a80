-- What a counted instruction writes and reads is occupied behind it and before it.
use Rattle.std.proofs.Common.{◌≡◌, inl, inr, ◌∷◌, ◌++◌, ◌∙◌, not, ℕ, suc, Bool, true, false, cond, List, [], Option, Some, map, refl, sym, ap, subst}
use Rattle.std.specs.Prelude.{filter, filter_map, option_map}
use Rattle.target_base.specs.declared.types.Effect.{Effect}
use Rattle.target_base.specs.declared.types.Effect.TheVariants as effects
use Rattle.target_base.specs.declared.types.Role.{Role}
use Rattle.target_base.specs.declared.types.Target.{Target}
use Rattle.target_base.specs.Roles.{is_silent}
use Rattle.meaning.specs.Code.{Code, Counted, Silent}
use Rattle.meaning.specs.Lanes.{Writes}
use Rattle.meaning.specs.Live.{Among as Member, here as first, there as later, OccupiedAfter, OccupiedBefore, read}
use Rattle.meaning.specs.declared.types.Fill.TheVariants.{Moved}
use Rattle.meaning.specs.declared.types.Lane.{Lane}
use Rattle.meaning.specs.declared.types.Source.{Source}
use Rattle.meaning.specs.declared.types.Source.TheVariants.{FromLane, Undef}
use Rattle.meaning.specs.declared.types.Write.{Write}
use Rattle.mir_func.specs.declared.func.RegOp.{RegOp}
use Rattle.mir_func.specs.declared.func.Operand.{Operand}
use Rattle.mir_func.specs.declared.func.Operand.TheVariants as operands
use Rattle.mir_func.specs.declared.func.Instr.{Instr}
use Rattle.mir_func.specs.declared.func.Block.{Block}
use Rattle.mir_func.specs.Value.{Function}
use Rattle.mir_func.specs.Binding.{effect_of, explicit_bound, explicit_operands, explicit_roles, immediate_of, implicit_registers, implicit_roles, is_definition, is_early, is_terminator, definitions, passes, registers, roles_of}
use Rattle.mir_meaning.specs.Codes.{item_of, target_of, way, ways_out}
use Rattle.mir_meaning.specs.Items.{all_lanes, answered, computed, counted_writes, defined_undef, first_width, further_writes, implicit_definitions, implicit_values, kept, rest_of, results, undefined, unreserved, use_value, value_of, values, write}
use Rattle.mir_meaning.specs.Points.{AtFirst, Entry, Exit, OccupiedAt, from_instr, point_item, points_of}
use Rattle.mir_meaning.specs.Registers.{is_reserved, operand_lanes, use_sources}
use Rattle.instr_effects.proofs.Members.{filter-in, flat-in, left-in, map-in, member-elim, member-none, right-in}
use Rattle.lowering_laws.specs.Shapes.{IsLowered}
use Rattle.join_laws.proofs.Named.{known, not-phi}
use Rattle.join_laws.proofs.Written.{counted-item, definition-written, early-written, use-read}
use Rattle.rewrite_laws.proofs.Spots.{code-at}

-- a write of the lane
record WritesLane (ws : Writes) (l : Lane) : Type 0 where
  pub write : Write
  pub there : Member write ws
  pub lane : write.lane ≡ l

computed-lane : (early : Bool) (n : ℕ) (ls : List Lane) (l : Lane) → Member l ls → WritesLane (computed early n ls) l
computed-lane early n [] l m = absurd (member-none l m)
computed-lane early n (k ∷ ls) l m =
    member-elim l k ls (λ e. record { write = _; there = first; lane = sym e })
    (λ j. let z = computed-lane early (suc n) ls l j in record { write = z.write; there = later z.there; lane = z.lane }) m

undefined-lane : (early : Bool) (ls : List Lane) (l : Lane) → Member l ls → WritesLane (undefined early ls) l
undefined-lane early ls l m = record { write = write early l (Moved Undef); there = map-in (λ l. write early l (Moved Undef)) l ls m; lane = refl }

lane-left : (ws vs : Writes) (l : Lane) → WritesLane ws l → WritesLane (ws ++ vs) l
lane-left ws vs l z = record { write = z.write; there = left-in z.write ws vs z.there; lane = z.lane }

lane-right : (ws vs : Writes) (l : Lane) → WritesLane vs l → WritesLane (ws ++ vs) l
lane-right ws vs l z = record { write = z.write; there = right-in z.write ws vs z.there; lane = z.lane }

lane-kept : (t : Target) (ws : Writes) (l : Lane) → is_reserved t l ≡ false → WritesLane ws l → WritesLane (kept t ws) l
lane-kept t ws l free z = record { write = z.write; there = filter-in (λ (w : Write). not (is_reserved t w.lane)) z.write ws z.there (ap (λ l. not (is_reserved t l)) z.lane ∙ ap not free); lane = z.lane }

-- the condition of a jump is read from the flags
abbrev pub reads_flags : Effect → Bool
reads_flags effects.Jcc = true
reads_flags e = false

module _ (t : Target) (f : Function) (i : Instr) where
  abbrev os : List Operand
  os = i.operands

  -- the lanes of an implicit definition are written
  implicit-written : (e : Effect) (d : RegOp) → Member d (implicit_definitions os) → (l : Lane) → Member l (operand_lanes t f d) → is_reserved t l ≡ false → WritesLane (further_writes t f e i) l
  implicit-written effects.Cmp d m l k free =
      let all = all_lanes t f (implicit_definitions os) in
      lane-kept t _ l free (lane-right _ (undefined false all) l (undefined-lane false all l (flat-in (operand_lanes t f) l d (implicit_definitions os) m k)))
  implicit-written effects.Call d m l k free =
      let there = filter-in (λ l. not (is_reserved t l)) l (all_lanes t f (implicit_definitions os)) (flat-in (operand_lanes t f) l d (implicit_definitions os) m k) (ap not free) in
      lane-left (computed false 0 (answered t f os)) _ l (computed-lane false 0 (answered t f os) l there)
  implicit-written (effects.Opaque kind) d m l k free =
      let all = all_lanes t f (implicit_definitions os) in
      lane-left (computed false _ all) _ l (computed-lane false _ all l (flat-in (operand_lanes t f) l d (implicit_definitions os) m k))
  implicit-written e d m l k free =
      undefined-lane false (unreserved t (all_lanes t f (implicit_definitions os))) l
      (filter-in (λ l. not (is_reserved t l)) l (all_lanes t f (implicit_definitions os)) (flat-in (operand_lanes t f) l d (implicit_definitions os) m k) (ap not free))

  -- and those of each other one
  lane-written : (e : Effect) (d : RegOp) → Member d (registers os) → d.def ≡ true → (l : Lane) → Member l (operand_lanes t f d) → is_reserved t l ≡ false → WritesLane (counted_writes t f e i) l
  lane-written e d m h l k free = go d.implicit refl
    where
      go : (u : Bool) → d.implicit ≡ u → WritesLane (counted_writes t f e i) l
      go false p = let z = (definition-written t f i e d m h p l k).1 in record { write = z.write; there = z.there; lane = z.lane }
      go true p =
          lane-right (results t f 0 (definitions (roles_of t i) os)) (further_writes t f e i) l
          (implicit-written e d (filter-in (λ (o : RegOp). o.def) d (implicit_registers os) (filter-in (λ (o : RegOp). o.implicit) d (registers os) m p) h) l k free)

  -- the lanes of a use are read
  implicit-values : (e : Effect) → reads_flags e ≡ false → (us : List RegOp) → implicit_values t f e (immediate_of os) (implicit_roles (roles_of t i)) us ≡ map (use_value t f) us
  implicit-values effects.Jcc n us = absurd (cc)
  implicit-values e n us = refl

  lane-read : (e : Effect) → reads_flags e ≡ false → (u : RegOp) → Member u (registers os) → u.def ≡ false → u.undef ≡ false → (l : Lane) → Member l (operand_lanes t f u) → Member (use_sources t f u) (map (λ v. v.0) (values t f e i)) × Member (FromLane l) (use_sources t f u)
  lane-read e n u m d q l k = go u.implicit refl
    where
      go : (c : Bool) → u.implicit ≡ c → Member (use_sources t f u) (map (λ v. v.0) (values t f e i)) × Member (FromLane l) (use_sources t f u)
      go false p = use-read t f i e u m d p q l k
      go true p =
          let us = filter-in (λ (o : RegOp). not o.def) u (implicit_registers os) (filter-in (λ (o : RegOp). o.implicit) u (registers os) m p) (ap not d) in (
            map-in (λ v. v.0) (use_value t f u) (values t f e i)
                (right-in (use_value t f u) (filter_map (value_of t f e (first_width t f (registers os))) (explicit_operands os)) _
                (subst (Member (use_value t f u)) (sym (implicit-values e n (filter (λ (o : RegOp). not o.def) (implicit_registers os)))) (map-in (use_value t f) u (filter (λ (o : RegOp). not o.def) (implicit_registers os)) us))),
            subst (Member (FromLane l)) (sym (ap (λ x. map (cond {A = Lane → Source} x (λ y. Undef) FromLane) (operand_lanes t f u)) q)) (map-in FromLane l (operand_lanes t f u) k),
          )

split : {X : Type 0} (x : X) (xs : List X) → Member x xs → (pre : List X) × (post : List X) × (pre ++ x ∷ post ≡ xs)
split x [] m = absurd (member-none x m)
split x (y ∷ xs) m = member-elim x y xs (λ e. ([], xs, ap (λ z. z ∷ xs) e)) (λ k. let z = split x xs k in (y ∷ z.0, z.1, ap (λ ys. y ∷ ys) z.2)) m

module _ (t : Target) (f : Function) (low : IsLowered t f) (b : Block) (i : Instr) (mb : Member b f.blocks) (mi : Member i b.instrs) where
  abbrev R : Lane → Bool
  R = is_reserved t

  abbrev P : Code
  P = points_of t f

  here-code : (p : Code) × (from_instr t f i.id f.blocks ≡ point_item t f b i ∷ p)
  here-code =
      let bs = split b f.blocks mb in
      let is = split i b.instrs mi in
      (_, code-at t f low.function bs.0 b bs.1 bs.2 is.0 i is.1 is.2)

  module _ (e : Effect) (is : effect_of t i ≡ Some e) (counted : is_silent e ≡ false) where
    as-counted : point_item t f b i ≡ Counted (rest_of t f e i) (map (λ v. v.0) (values t f e i)) (counted_writes t f e i) (option_map (way t f b.number) (target_of i.operands)) (cond (is_terminator e) (ways_out t f b) [])
    unfolding point_item
    as-counted =
        ap (λ c. cond c (Silent [] (defined_undef t f i.operands)) (item_of t f b i)) (not-phi t i (known t i (low.lowered b i mb mi)).1).0
        ∙ counted-item t f b i e is counted

    -- a lane of a definition is occupied behind the instruction
    pub written-exit : (d : RegOp) → Member d (registers i.operands) → d.def ≡ true → (l : Lane) → Member l (operand_lanes t f d) → is_reserved t l ≡ false → OccupiedAt t f (Exit i.id) l
    written-exit d m h l k free =
        let z = lane-written t f i e d m h l k free in
        let at : OccupiedAfter R P (point_item t f b i) here-code.0 l = subst (λ y. OccupiedAfter R P y here-code.0 l) (sym as-counted) (inr (z.write, z.there, z.lane), free) in
        subst (AtFirst (λ y q. OccupiedAfter R P y q l)) (sym here-code.1) at

    -- one of an early definition before it too
    pub early-entry : (q : Option Role) (d : RegOp) → Member (q, operands.Reg d) (explicit_bound (explicit_roles (roles_of t i)) (explicit_operands i.operands)) → passes is_early q ≡ true → is_definition d ≡ true
        → (l : Lane) → Member l (operand_lanes t f d) → is_reserved t l ≡ false → OccupiedAt t f (Entry i.id) l
    early-entry q d m early h l k free =
        let z = early-written t f i e q d m early h l k in
        let at : OccupiedBefore R P (point_item t f b i) here-code.0 l = subst (λ y. OccupiedBefore R P y here-code.0 l) (sym as-counted) (inr (z.write, z.there, z.lane, z.when), free) in
        subst (AtFirst (λ y q. OccupiedBefore R P y q l)) (sym here-code.1) at

    -- and so is a lane that is read
    pub read-entry : reads_flags e ≡ false → (u : RegOp) → Member u (registers i.operands) → u.def ≡ false → u.undef ≡ false → (l : Lane) → Member l (operand_lanes t f u) → is_reserved t l ≡ false → OccupiedAt t f (Entry i.id) l
    read-entry n u m d q l k free =
        let z = lane-read t f i e n u m d q l k in
        let at : OccupiedBefore R P (point_item t f b i) here-code.0 l = subst (λ y. OccupiedBefore R P y here-code.0 l) (sym as-counted) (inl (read z.0 z.1 free), free) in
        subst (AtFirst (λ y q. OccupiedBefore R P y q l)) (sym here-code.1) at
