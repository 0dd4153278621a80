-- What is stored behind an instruction with tinies: what it writes to tinies of its definitions of the range.
use Rattle.std.proofs.Common.{◌≡◌, ◌⊎◌, inl, inr, ◌+◌, ◌∷◌, ◌∙◌, ◌&&◌, not, ℕ, true, cond, List, Option, Some, None, length, map, sym, ap, subst, []}
use Rattle.std.proofs.lemmas.List.{length-map}
use Rattle.target_base.specs.declared.types.Role.{Role}
use Rattle.target_base.specs.declared.types.Target.{Target}
use Rattle.meaning.specs.Code.{Code, Item, Silent}
use Rattle.meaning.specs.Lanes.{Writes, filled}
use Rattle.meaning.specs.Live.{Among as Member, LiveAfter, here as first, writes_of}
use Rattle.meaning.specs.declared.types.Fill.TheVariants.{Moved}
use Rattle.meaning.specs.declared.types.Lane.{Lane}
use Rattle.meaning.specs.declared.types.Lane.TheVariants.{SlotLane, VirtualLane}
use Rattle.meaning.specs.declared.types.Source.TheVariants.{FromLane}
use Rattle.mir_func.specs.declared.func.Loc.TheVariants.{Virtual}
use Rattle.mir_func.specs.declared.func.RegOp.{RegOp}
use Rattle.mir_func.specs.declared.func.Operand.TheVariants as operands
use Rattle.mir_func.specs.declared.func.Instr.{Instr}
use Rattle.mir_func.specs.declared.func.Block.{Block}
use Rattle.mir_func.specs.Value.{Function}
use Rattle.mir_func.specs.Binding.{is_definition}
use Rattle.mir_meaning.specs.Codes.{item_of}
use Rattle.mir_meaning.specs.Registers.{is_reserved, numbers, operand_lanes, range_widths}
use Rattle.instr_effects.proofs.Members.{flat-in, flat-of, map-in, map-of, member-elim, member-none}
use Rattle.lowering_laws.proofs.Traced.{lanes_by}
use Rattle.spiller.specs.Rematerialised.{ways_read}
use Rattle.spiller.specs.Setting.{Spilling, in_own_slot, is_own, own_lanes, plain_use, store}
use Rattle.spiller.specs.Spilled.{OwnDefinition, Seats, as_tiny, numbered_operands, place_change, seated, seated_operand, seats_from, spilled, stored, tiny_defined, tiny_of, tiny_used, with_tinies}
use Rattle.spill_laws.specs.Laws.{HasTinies}
use Rattle.spill_laws.specs.Seats.{save_writes}
use Rattle.spill_laws.specs.Standing.{IsSetting, code_before, code_from}
use Rattle.spill_laws.proofs.OwnOperands.{defined-site, definition-once, explicit, site-of}
use Rattle.spill_laws.proofs.SlotPlaces.{width}
use Rattle.spill_laws.proofs.TinyRules.{operand-there}
use Rattle.clear_laws.proofs.DefinitionTinies.{defined-by, definition-widths, save-all, save-given, save-lane, stored-item, stored-there}
use Rattle.clear_laws.proofs.PlaceBounds.{Wrote}
use Rattle.clear_laws.proofs.Seated.{IsFurther}
use Rattle.clear_laws.proofs.SpillPoints.{is-wide}
use Rattle.clear_laws.proofs.TinyPlaces.{IsOwn, tiny-at}
use Rattle.clear_laws.proofs.SeatedLoads.{writes-by, writes-in, writes-of}
use Rattle.spill_laws.proofs.Ranges.{numbered-of}
use Rattle.spiller.specs.Spilled.{definitions_in}

module _ (s : Spilling) (i : Instr) (n : ℕ) (h : HasTinies s (spilled s) n (i ∷ [])) (z : IsSetting s (spilled s)) (c : Block) (was-written now-written : Writes)
    (own-in : (o : RegOp) → Member (operands.Reg o) i.operands → is_own s o ≡ true → is_definition o ≡ true → (j : ℕ) → Member j (own_lanes s o.index) → Wrote was-written (VirtualLane s.range j))
    (tiny-in : (o : RegOp) (k : ℕ) → Member (operands.Reg (as_tiny o k)) (with_tinies s (seats_from s n (i ∷ [])) i).operands → o.def ≡ true → (l : Lane) → Member l (operand_lanes s.target (spilled s) (as_tiny o k)) → Wrote now-written l) where
  abbrev t : Target
  t = s.target

  abbrev f : Function
  f = s.func

  abbrev g : Function
  g = spilled s

  abbrev x : Seats
  x = seats_from s n (i ∷ [])

  abbrev pub saves : List Writes
  saves = writes-by s.target (spilled s) c (place_change s n (i ∷ [])).behind

  abbrev now : Instr
  now = with_tinies s (seats_from s n (i ∷ [])) i

  -- a definition of the range that has a tiny

  record OfDefinition (k : ℕ) (w : OwnDefinition) : Type 0 where
    pub role : Option Role
    pub operand : RegOp
    pub among : Member (w.number, (role, operands.Reg operand)) (numbered_operands s.target i)
    pub own : is_own s operand ≡ true
    pub def : operand.def ≡ true
    pub index : w.index ≡ operand.index

  of-definition : (k : ℕ) (w : OwnDefinition) → Member (k, w) x.definitions → OfDefinition k w
  of-definition k w m =
      let v = site-of s g n (i ∷ []) h (k, w) m in
      let d = v.defines in
      let here : v.instr ≡ i = member-elim v.instr i [] (λ q. q) (λ q. absurd (member-none v.instr q)) v.inside in
      record {
        role = d.role;
        operand = d.operand;
        among = subst (λ j. Member (w.number, (d.role, operands.Reg d.operand)) (numbered_operands t j)) here d.among;
        own = d.own;
        def = d.def;
        index = d.index;
      }

  -- the instruction wrote the range's lanes
  own-written : (k : ℕ) (w : OwnDefinition) → Member (k, w) x.definitions → (j : ℕ) → Member j (own_lanes s w.index) → Wrote was-written (VirtualLane s.range j)
  own-written k w m j mj =
      let a = of-definition k w m in
      let o = a.operand in
      let there = operand-there s g n (i ∷ []) h i first w.number a.role o a.among in
      let not-implicit = explicit s g n (i ∷ []) h i first w.number a.role o a.among a.own in
      own-in o there a.own (λ q. a.def q && not (not-implicit q)) j (subst (λ y. Member j (own_lanes s y)) a.index mj)

  -- with tinies it writes those of the tiny
  tiny-written : (k : ℕ) (w : OwnDefinition) → Member (k, w) x.definitions → (l : Lane) → Member l (lanes_by k (numbers 0 (length (own_lanes s w.index)))) → Wrote now-written l
  tiny-written k w m l ml =
      let a = of-definition k w m in
      let o = a.operand in
      let d = defined-site s g n (i ∷ []) h i first w.number a.role o a.among a.own a.def in
      let one : (k, w) ≡ (d.tiny, d.definition) = definition-once s i (n + length (ways_read s (i ∷ []))) (k, w) (d.tiny, d.definition) m d.among (sym d.number) in
      let tiny : tiny_of s x i w.number a.role o ≡ Some k = (λ q. cond (a.def q) (tiny_defined x i w.number) (tiny_used s x i a.role o)) ∙ (d.is ∙ ap (λ (v : ℕ × OwnDefinition). Some v.0) (sym one)) in
      let seat : seated s x i w.number a.role o ≡ as_tiny o k = λ q. cond (a.own q) (elim (tiny q) as (λ y. RegOp) [ None ↦ o | Some v ↦ as_tiny o v ]) o in
      let there : Member (operands.Reg (as_tiny o k)) now.operands = subst (λ y. Member (operands.Reg y) now.operands) seat (map-in (seated_operand s x i) (w.number, (a.role, operands.Reg o)) (numbered_operands t i) a.among) in
      let has = definition-widths s n (i ∷ []) h k w m (defined-by s n (i ∷ []) h w (numbered-of (n + length (ways_read s (i ∷ []))) (definitions_in s (i ∷ [])) (k, w) m)) in
      let index = (defined-by s n (i ∷ []) h w (numbered-of (n + length (ways_read s (i ∷ []))) (definitions_in s (i ∷ [])) (k, w) m)).index in
      let many : length (range_widths t g k) ≡ length (own_lanes s w.index) = ap length has.wide ∙ (ap (λ y. length (map (width s) (own_lanes s y))) (sym index) ∙ length-map (own_lanes s w.index) (width s)) in
      let lane : Member l (operand_lanes t g (as_tiny o k)) = subst (Member l) (λ q. lanes_by k (numbers 0 (sym many q))) ml in
      tiny-in o k there a.def l lane

  -- each store is of a definition

  record OfStore (j : Instr) : Type 0 where
    pub k : ℕ
    pub by : OwnDefinition
    pub among : Member (k, by) x.definitions
    pub item : item_of t g c j ≡ Silent [] (save_writes s (record { tiny = k; lanes = own_lanes s by.index }))

  of-store : (j : Instr) → Member j (place_change s n (i ∷ [])).behind → OfStore j
  of-store j m =
      let y = flat-of (stored s) j x.definitions m in
      record { k = y.0.0; by = y.0.1; among = y.1; item = stored-item s n (i ∷ []) h z c y.0.0 y.0.1 y.1 j y.2 }

  pub save-item : (j : Instr) → Member j (place_change s n (i ∷ [])).behind → item_of t g c j ≡ Silent [] (writes_of (item_of t g c j))
  save-item j m = let e = (of-store j m).item in e ∙ ap (λ u. Silent [] (writes_of u)) (sym e)

  pub save-lanes : (ws : Writes) (a : Lane) → Member ws saves → Wrote ws a → (k : ℕ) × (w : ℕ) × (a ≡ SlotLane s.slot k w) × Wrote was-written (VirtualLane s.range k)
  save-lanes ws a m wr =
      let y = writes-of t g c (place_change s n (i ∷ [])).behind ws m in
      let o = of-store y.0 y.1 in
      let v = save-lane s (record { tiny = o.k; lanes = own_lanes s o.by.index }) a (subst (λ u. Wrote (writes_of u) a) o.item (subst (λ u. Wrote u a) y.2 wr)) in
      (v.0, v.1, v.3, own-written o.k o.by o.among v.0 v.2)

  pub save-gives : (ws : Writes) (a l : Lane) → Member ws saves → filled ws a ≡ Moved (FromLane l) → ((l ≡ a) × (Wrote ws a → ⊥)) ⊎ (IsFurther f l × Wrote now-written l)
  save-gives ws a l m fed = let y = writes-of t g c (place_change s n (i ∷ [])).behind ws m in go y.0 (of-store y.0 y.1) y.2
    where
      go : (j : Instr) → OfStore j → ws ≡ writes_of (item_of t g c j) → ((l ≡ a) × (Wrote ws a → ⊥)) ⊎ (IsFurther f l × Wrote now-written l)
      go j o is = by (save-given s (record { tiny = o.k; lanes = own_lanes s o.by.index }) a l (sym (ap (λ u. filled u a) whole) ∙ fed))
        where
          whole : ws ≡ save_writes s (record { tiny = o.k; lanes = own_lanes s o.by.index })
          whole = is ∙ ap writes_of o.item

          by : ((l ≡ a) × (Wrote (save_writes s (record { tiny = o.k; lanes = own_lanes s o.by.index })) a → ⊥)) ⊎ Member l (lanes_by o.k (numbers 0 (length (own_lanes s o.by.index)))) → ((l ≡ a) × (Wrote ws a → ⊥)) ⊎ (IsFurther f l × Wrote now-written l)
          by (inl q) = inl (q.0, λ wr. q.1 (subst (λ u. Wrote u a) whole wr))
          by (inr q) =
              let v = map-of (VirtualLane o.k) l (numbers 0 (length (own_lanes s o.by.index))) q in
              let has = definition-widths s n (i ∷ []) h o.k o.by o.among (defined-by s n (i ∷ []) h o.by (numbered-of (n + length (ways_read s (i ∷ []))) (definitions_in s (i ∷ [])) (o.k, o.by) o.among)) in
              inr ((o.k, v.0, v.2, has.further), tiny-written o.k o.by o.among l q)

  -- lanes that are live behind it are stored, where it writes them
  pub saved-to : (k : ℕ) (q : Option Role) (o : RegOp) → IsOwn s (spilled s) n (i ∷ []) h i first k q o → o.def ≡ true → (j : ℕ) → Member j (own_lanes s o.index) → (w : ℕ) → is-wide s w
      → (y : Item) (p : Code) → code_from s i.id ≡ y ∷ p → LiveAfter (is_reserved s.target) (code_before s) y p (VirtualLane s.range j) → (ws : Writes) × Member ws saves × Wrote ws (SlotLane s.slot j w)
  saved-to k q o own def j mj w wd y p from live =
      let v = tiny-at s g n (i ∷ []) h i first k q o own def in
      let m = v.0 in
      let d = v.2.by in
      let st = store t d.class (plain_use (Virtual m) None) (in_own_slot s d.index) in
      let inside : Member j (own_lanes s d.index) = subst (λ u. Member j (own_lanes s u)) (sym v.2.index) mj in
      let at : code_from s d.by.id ≡ y ∷ p = ap (λ (u : Instr). code_from s u.id) v.2.instr ∙ from in
      let there = stored-there s n (i ∷ []) h z c m d j y p at inside live in
      let item = stored-item s n (i ∷ []) h z c m d v.2.among st there in (
        writes_of (item_of t g c st),
        writes-in t g c (place_change s n (i ∷ [])).behind st (flat-in (stored s) st (m, d) x.definitions v.2.among there),
        subst (λ u. Wrote (writes_of u) (SlotLane s.slot j w)) (sym item) (save-all s (record { tiny = m; lanes = own_lanes s d.index }) j w inside wd),
      )
