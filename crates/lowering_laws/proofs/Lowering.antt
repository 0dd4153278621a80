-- Phi elimination keeps the meaning, by what it rests on: blocks in step, instruction by instruction.
use Rattle.std.proofs.Common.{◌≡◌, ◌⊎◌, inl, inr, ◌∷◌, ◌++◌, ◌∙◌, ◌+◌, ℕ, true, false, cond, List, Option, Some, None, map, filter, flat_map, length, refl, sym, ap, subst, []}
use Rattle.std.specs.Prelude.{nat_eq, option_map, ◌==◌}
use Rattle.target_base.specs.declared.types.ClassId.{ClassId}
use Rattle.target_base.specs.declared.types.Target.{Target}
use Rattle.target_base.specs.Rules.{is_phi}
use Rattle.meaning.specs.Code.{Code, Counted, Silent}
use Rattle.meaning.specs.Lanes.{Writes, settled, through}
use Rattle.meaning.specs.Live.{Among, reads_of, writes_of}
use Rattle.meaning.specs.Relations.{Rel, Within, after_both, after_first, after_second, along}
use Rattle.meaning.specs.Rows.{first_edges, first_target, second_edges, second_target}
use Rattle.meaning.specs.declared.types.Lane.TheVariants.{VirtualLane}
use Rattle.meaning.specs.declared.types.Source.{Source}
use Rattle.meaning.specs.declared.types.EdgePair.{EdgePair}
use Rattle.laws.proofs.Core.{Exits, Plan, Reaches}
use Rattle.mir_func.specs.declared.func.Edge.{Edge as Successor}
use Rattle.mir_func.specs.declared.func.Op.TheVariants as ops
use Rattle.mir_func.specs.declared.func.Instr.{Instr}
use Rattle.mir_func.specs.declared.func.Block.{Block}
use Rattle.mir_func.specs.Value.{Function}
use Rattle.mir_func.specs.Binding.{does, is_terminator, puts_together}
use Rattle.mir_meaning.specs.Items.{copied}
use Rattle.mir_meaning.specs.Codes.{instrs_of, item_of, target_of, way, ways_out}
use Rattle.phi_elim.specs.declared.arrivals.Arrival.{Arrival}
use Rattle.phi_elim.specs.Moves.{copy_op}
use Rattle.phi_elim.specs.Phis.{all_in_place, all_instrs, arrivals_in, arriving, arriving_at, from_incoming, in_place, incoming_class, phi_count, phi_number, phis_lowered}
use Rattle.lowering_laws.proofs.Alike.{Behind, CountedPart, Equal, MovesRanges, SilentPart, behind-stays, both-ending, both-plain, both-silent, counted-of, parts-of}
use Rattle.lowering_laws.proofs.Arrivals.{arrival_writes, writes_at}
use Rattle.lowering_laws.proofs.Chained.{both-ways, ends-ways, exits-within, first-ways, second-ways}
use Rattle.lowering_laws.proofs.Classes.{AllNamed, AreNamed, item-stays, widened}
use Rattle.lowering_laws.proofs.Olds.{AllOld, ReadsOld, old_source, reads-are-old, writes-are-old}
use Rattle.lowering_laws.proofs.Placed.{arriving-item, copy-goes-on, copy-item, phi-item, set_before}
use Rattle.lowering_laws.proofs.Same.{arrival-alike, copied-alike}
use Rattle.lowering_laws.proofs.Stretches.{Stretch, along-more, first-silent, joined, lessened, nothing, second-silent, strengthened}
use Rattle.lowering_laws.proofs.Traced.{is_written, second-silents, silents, settled-none, traced}
use Rattle.lowering_laws.proofs.Ways.{PhisOn, meets, phi_copies}

-- the number of the incoming register of the first phi of the block of a number, where these blocks' are numbered from c on
abbrev pub counter : Target → ℕ → List Block → ℕ → ℕ
counter t c [] m = c
counter t c (b ∷ bs) m = cond (nat_eq b.number m) c (counter t (c + phi_count t b.instrs) bs m)

pub map-append : {A B : Type 0} (g : A → B) (xs ys : List A) → map g (xs ++ ys) ≡ map g xs ++ map g ys
map-append g [] ys = refl
map-append g (x ∷ xs) ys = ap (λ zs. g x ∷ zs) (map-append g xs ys)

-- none of these is a phi
abbrev pub NoPhis : Target → List Instr → Type 0
NoPhis t [] = Unit {0}
NoPhis t (i ∷ is) = (does is_phi t i ≡ false) × NoPhis t is

module _ (t : Target) (f : Function) where
  abbrev pub further : List (Option ClassId)
  further = flat_map (incoming_class t f.classes) (all_instrs f.blocks)

  -- the function with the classes of incoming registers
  abbrev pub h : Function
  h = widened t f further

  abbrev pub bound : ℕ
  bound = length f.classes

  abbrev pub arrs : List Arrival
  arrs = arrivals_in t f.blocks bound (all_instrs f.blocks)

  abbrev g : Function
  g = phis_lowered t f

  classes : h.classes ≡ g.classes
  unfolding phis_lowered
  classes = refl

  -- what holds before the copies that take the places of these phis
  abbrev pub Start : ℕ → List Instr → Rel
  Start c is s u = (old_source bound s ≡ true) × (u ≡ traced (phi_copies t h bound c is) s)

  abbrev pub K : Plan
  K m = Start (counter t bound f.blocks m) (instrs_of f.blocks m)

  -- the copies at the end of the block at a place
  abbrev pub ending : ℕ → List Writes
  ending x = writes_at t h x arrs

  -- the phis of block m on the way from block n, at whose end these copies stand
  abbrev pub WayOn : List Writes → ℕ → ℕ → Type 0
  WayOn A n m = PhisOn t h bound (Behind bound A) n (counter t bound f.blocks m) (instrs_of f.blocks m)

  -- a terminator of a block: it writes no virtual register, and ways lead from it to where the block's do
  pub record IsEnd (A : List Writes) (b : Block) (i : Instr) : Type 0 where
    pub plain : does is_phi t i ≡ false
    pub ends : does is_terminator t i ≡ true
    pub named : AreNamed f i.operands
    pub free : (v k : ℕ) → is_written (writes_of (item_of t f b i)) (VirtualLane v k) ≡ false
    pub target : (m : ℕ) → target_of i.operands ≡ Some m → WayOn A b.number m

  abbrev pub AreEnds : List Writes → Block → List Instr → Type 0
  AreEnds A b [] = Unit {0}
  AreEnds A b (i ∷ is) = IsEnd A b i × AreEnds A b is

  -- phis, other instructions, terminators
  pub data Shape (A : List Writes) (b : Block) : List Instr → Type 0 where
    none : Shape A b []
    phi : {i : Instr} {is : List Instr} → does is_phi t i ≡ true → Shape A b is → Shape A b (i ∷ is)
    other : {i : Instr} {is : List Instr} → NoPhis t (i ∷ is) → does is_terminator t i ≡ false → AreNamed f i.operands → target_of i.operands ≡ None → Shape A b is → Shape A b (i ∷ is)
    ends : {i : Instr} {is : List Instr} → AreEnds A b (i ∷ is) → Shape A b (i ∷ is)

  none-copied : (c : ℕ) (is : List Instr) → NoPhis t is → phi_copies t h bound c is ≡ []
  none-copied c [] n = refl
  none-copied c (i ∷ is) n = (λ k. cond (n.0 k) (copied t h (from_incoming c i.operands) ∷ []) [] ++ phi_copies t h bound (c + phi_number t i) is) ∙ none-copied (c + phi_number t i) is n.1

  none-placed : (c : ℕ) (is : List Instr) → NoPhis t is → all_in_place t c is ≡ is
  none-placed c [] n = refl
  none-placed c (i ∷ is) n = λ k. cond (n.0 k) (record i { op = ops.Known copy_op; operands = from_incoming c i.operands }) i ∷ none-placed (c + phi_number t i) is n.1 k

  ends-plain : (A : List Writes) (b : Block) (is : List Instr) → AreEnds A b is → NoPhis t is
  ends-plain A b [] e = tt
  ends-plain A b (i ∷ is) e = (e.0.plain, ends-plain A b is e.1)

  -- behind no phi that is to come all is equal
  pub start-equal : (c : ℕ) (is : List Instr) → NoPhis t is → Within (Start c is) (Equal bound)
  start-equal c is n s u k = (k.0, k.1 ∙ ap (λ wss. traced wss s) (none-copied c is n))

  equal-start : (c : ℕ) (is : List Instr) → NoPhis t is → Within (Equal bound) (Start c is)
  equal-start c is n s u k = (k.0, k.1 ∙ sym (ap (λ wss. traced wss s) (none-copied c is n)))

  module _ (named : AllNamed f f.blocks) (bare : (n m : ℕ) → (way t g n m).phis ≡ []) where
    -- along a way: the phis of the first do what the copies behind it do in the second
    pub way-in : (A : List Writes) (n m : ℕ) → MovesRanges bound A → WayOn A n m → Within (K m) (along (both-ways t h g K n m) (Behind bound A))
    way-in A n m moves w s u k =
        let from : Source = settled (through (way t h n m).phis s) in
        let met = meets t h bound (Behind bound A) n (λ q o. (o, moves.kept q o)) w s k.0 in
        subst (λ ps. Behind bound A from (settled (through ps u))) (sym (bare n m)) (subst (Behind bound A from) (sym (settled-none u)) (subst (Behind bound A from) (sym k.1) met.0))

    module _ (x : ℕ) (b : Block) (js : List Instr) (moves : MovesRanges bound (ending x)) where
      abbrev A : List Writes
      A = ending x

      -- the block of the second
      abbrev c' : Block
      c' = record b { instrs = js }

      abbrev new : List Instr
      new = arriving_at arrs x

      arriving-items : (list : List Arrival) → map (item_of t g c') (map arriving list) ≡ silents (map (arrival_writes t h) list)
      arriving-items [] = refl
      arriving-items (a ∷ list) = λ k. (arriving-item t g c' a ∙ ap (λ ws. Silent [] ws) (arrival-alike t h g classes a)) k ∷ arriving-items list k

      last-copies : (R : Rel) → Stretch K R (λ s u. R s (traced A u)) [] (map (item_of t g c') new)
      last-copies R = subst (λ q. Stretch K R (λ s u. R s (traced A u)) [] q) (sym (arriving-items (filter (λ a. a.block == x) arrs))) (second-silents K R A)

      -- a phi, and the copy that takes its place
      one-phi : (c : ℕ) (i : Instr) (is : List Instr) → does is_phi t i ≡ true → Stretch K (Start c (i ∷ is)) (Start (c + phi_number t i) is) (item_of t h b i ∷ []) (item_of t g c' (in_place t c i) ∷ [])
      one-phi c i is e = subst (λ p. Stretch K R S p (item_of t g c' (in_place t c i) ∷ [])) (ap (λ y. y ∷ []) (sym (phi-item t h b i e))) (subst (λ q. Stretch K R S (Silent [] [] ∷ []) q) (ap (λ y. y ∷ []) (sym placed)) base)
        where
          R : Rel
          R = Start c (i ∷ is)

          S : Rel
          S = Start (c + phi_number t i) is

          copy : Instr
          copy = record i { op = ops.Known copy_op; operands = from_incoming c i.operands }

          ws : Writes
          ws = copied t h (from_incoming c i.operands)

          placed : item_of t g c' (in_place t c i) ≡ Silent [] ws
          placed = (λ k. item_of t g c' (cond (e k) copy i)) ∙ (copy-item t g c' copy refl ∙ ap (λ ws. Silent [] ws) (copied-alike t h g classes (from_incoming c i.operands)))

          T : Rel
          T = after_second ws (after_first [] R)

          within : Within S T
          within s u k =
              let path : settled (through ws u) ≡ traced (phi_copies t h bound c (i ∷ is)) s =
              ap (λ z. settled (through ws z)) k.1 ∙ (λ j. traced (cond (sym e j) (ws ∷ []) [] ++ phi_copies t h bound (c + phi_number t i) is) s) in
              subst (λ z. R z (settled (through ws u))) (sym (settled-none s)) (k.0, path)

          base : Stretch K R S (Silent [] [] ∷ []) (Silent [] ws ∷ [])
          base =
              lessened K R T S (Silent [] [] ∷ []) (Silent [] ws ∷ []) within
              (joined K R (after_first [] R) T (Silent [] [] ∷ []) [] [] (Silent [] ws ∷ []) (first-silent K R [] []) (second-silent K (after_first [] R) [] ws))

      writes-old : (i : Instr) → AreNamed f i.operands → AllOld bound (writes_of (item_of t h b i))
      writes-old i n = subst (λ y. AllOld bound (writes_of y)) (sym (item-stays t f further named b i n)) (writes-are-old t f b i n)

      reads-old : (i : Instr) → AreNamed f i.operands → does puts_together t i ≡ false → ReadsOld bound (reads_of (item_of t h b i))
      reads-old i n e = subst (λ y. ReadsOld bound (reads_of y)) (sym (item-stays t f further named b i n)) (reads-are-old t f b i e n)

      -- an instruction that is neither a phi nor a terminator
      one-other : (i : Instr) → does is_terminator t i ≡ false → AreNamed f i.operands → target_of i.operands ≡ None → Stretch K (Equal bound) (Equal bound) (item_of t h b i ∷ []) (item_of t g c' i ∷ [])
      one-other i e n to = go (parts-of t h g classes bare b c' i (λ o m. (n o m).fixed))
        where
          both : (X Y : Code) → item_of t h b i ∷ [] ≡ X → item_of t g c' i ∷ [] ≡ Y → Stretch K (Equal bound) (Equal bound) X Y → Stretch K (Equal bound) (Equal bound) (item_of t h b i ∷ []) (item_of t g c' i ∷ [])
          both X Y p q s = subst (λ z. Stretch K (Equal bound) (Equal bound) z (item_of t g c' i ∷ [])) (sym p) (subst (λ z. Stretch K (Equal bound) (Equal bound) X z) (sym q) s)

          go : SilentPart (item_of t h b i) (item_of t g c' i) ⊎ CountedPart t h g b c' i (item_of t h b i) (item_of t g c' i) → Stretch K (Equal bound) (Equal bound) (item_of t h b i ∷ []) (item_of t g c' i ∷ [])
          go (inl z) =
              both (Silent z.reads z.writes ∷ []) (Silent z.reads z.writes ∷ []) (ap (λ y. y ∷ []) z.one) (ap (λ y. y ∷ []) z.other)
              (both-silent bound K z.reads z.reads z.writes (subst (AllOld bound) (ap writes_of z.one) (writes-old i n)))
          go (inr z) =
              both (Counted z.rest z.reads z.writes None [] ∷ []) (Counted z.rest z.reads z.writes None [] ∷ [])
              (ap (λ y. y ∷ []) (z.one ∙ (λ k. Counted z.rest z.reads z.writes (option_map (way t h b.number) (to k)) (cond (e k) (ways_out t h b) []))))
              (ap (λ y. y ∷ []) (z.other ∙ (λ k. Counted z.rest z.reads z.writes (option_map (way t g c'.number) (to k)) (cond (e k) (ways_out t g c') []))))
              (both-plain bound K z.rest z.reads z.writes (subst (AllOld bound) (ap writes_of z.one) (writes-old i n)) (subst (ReadsOld bound) (ap reads_of z.one) (reads-old i n z.apart)))

      module _ (leads : (s : Successor) → Among s b.successors → WayOn A b.number s.block) where
        first-to : (q : Option ℕ) → first_target (option_map (both-ways t h g K b.number) q) ≡ option_map (way t h b.number) q
        first-to None = refl
        first-to (Some m) = refl

        second-to : (q : Option ℕ) → second_target (option_map (both-ways t h g K b.number) q) ≡ option_map (way t g b.number) q
        second-to None = refl
        second-to (Some m) = refl

        one-end : (i : Instr) → IsEnd A b i → Stretch K (Behind bound A) (Behind bound A) (item_of t h b i ∷ []) (item_of t g c' i ∷ [])
        one-end i e =
            subst (λ p. Stretch K (Behind bound A) (Behind bound A) (p ∷ []) (item_of t g c' i ∷ [])) (sym first-side)
            (subst (λ q. Stretch K (Behind bound A) (Behind bound A) (Counted z.rest z.reads z.writes (first_target goal) (first_edges exits) ∷ []) (q ∷ [])) (sym second-side)
            (both-ending bound K A moves z.rest z.reads z.writes goal exits old free (subst (ReadsOld bound) (ap reads_of z.one) (reads-old i e.named z.apart)) (reaches (target_of i.operands) refl) out))
          where
            z : CountedPart t h g b c' i (item_of t h b i) (item_of t g c' i)
            z = counted-of t h g classes bare b c' i (λ o m. (e.named o m).fixed) e.ends

            goal : Option EdgePair
            goal = option_map (both-ways t h g K b.number) (target_of i.operands)

            exits : List EdgePair
            exits = ends-ways t h g K b.number b.successors

            first-side : item_of t h b i ≡ Counted z.rest z.reads z.writes (first_target goal) (first_edges exits)
            first-side = z.one ∙ (λ k. Counted z.rest z.reads z.writes (sym (first-to (target_of i.operands)) k) ((ap (λ y. cond y (ways_out t h b) []) e.ends ∙ sym (first-ways t h g K b.number b.successors)) k))

            second-side : item_of t g c' i ≡ Counted z.rest z.reads z.writes (second_target goal) (second_edges exits)
            second-side = z.other ∙ (λ k. Counted z.rest z.reads z.writes (sym (second-to (target_of i.operands)) k) ((ap (λ y. cond y (ways_out t g c') []) e.ends ∙ sym (second-ways t h g K b.number b.successors)) k))

            old : AllOld bound z.writes
            old = subst (AllOld bound) (ap writes_of z.one) (writes-old i e.named)

            free : (v k : ℕ) → is_written z.writes (VirtualLane v k) ≡ false
            free v k = subst (λ y. is_written y (VirtualLane v k) ≡ false) (ap writes_of (sym (item-stays t f further named b i e.named) ∙ z.one)) (e.free v k)

            into : (m : ℕ) → WayOn A b.number m → Within (K m) (along (both-ways t h g K b.number m) (after_both z.writes z.writes (Behind bound A)))
            into m w s u k = along-more (both-ways t h g K b.number m) (after_both z.writes z.writes (Behind bound A)) (Behind bound A) (behind-stays bound A moves z.writes old free) s u (way-in A b.number m moves w s u k)

            reaches : (q : Option ℕ) → target_of i.operands ≡ q → Reaches K (option_map (both-ways t h g K b.number) q) (after_both z.writes z.writes (Behind bound A))
            reaches None w = tt
            reaches (Some m) w = into m (e.target m w)

            out : Exits K exits (after_both z.writes z.writes (Behind bound A))
            out = exits-within t h g K b.number (after_both z.writes z.writes (Behind bound A)) b.successors (λ s m. into s.block (leads s m))

        all-ends : (is : List Instr) → AreEnds A b is → Stretch K (Behind bound A) (Behind bound A) (map (item_of t h b) is) (map (item_of t g c') is)
        all-ends [] e = nothing K (Behind bound A)
        all-ends (i ∷ is) e =
            joined K (Behind bound A) (Behind bound A) (Behind bound A) (item_of t h b i ∷ []) (item_of t g c' i ∷ []) (map (item_of t h b) is) (map (item_of t g c') is) (one-end i e.0) (all-ends is e.1)

        placed-goes-on : (c : ℕ) (i : Instr) → does is_phi t i ≡ true → does is_terminator t (in_place t c i) ≡ false
        placed-goes-on c i e =
            (λ k. does is_terminator t (cond (e k) (record i { op = ops.Known copy_op; operands = from_incoming c i.operands }) i))
            ∙ copy-goes-on t (record i { op = ops.Known copy_op; operands = from_incoming c i.operands }) refl

        -- the instructions of a block
        pub body : (c : ℕ) {is : List Instr} → Shape A b is → Stretch K (Start c is) (Behind bound A) (map (item_of t h b) is) (map (item_of t g c') (set_before t new (all_in_place t c is)))
        body c none = last-copies (Start c [])
        body c (phi {i = i} {is = is} e s) =
            let rest = all_in_place t (c + phi_number t i) is in
            subst (λ y. Stretch K (Start c (i ∷ is)) (Behind bound A) (map (item_of t h b) (i ∷ is)) (map (item_of t g c') (cond y (new ++ in_place t c i ∷ rest) (in_place t c i ∷ set_before t new rest)))) (sym (placed-goes-on c i e))
            (joined K (Start c (i ∷ is)) (Start (c + phi_number t i) is) (Behind bound A) (item_of t h b i ∷ []) (item_of t g c' (in_place t c i) ∷ []) (map (item_of t h b) is) (map (item_of t g c') (set_before t new rest)) (one-phi c i is e) (body (c + phi_number t i) s))
        body c (other {i = i} {is = is} n e nm to s) =
            let rest = all_in_place t (c + phi_number t i) is in
            let same : in_place t c i ≡ i = λ k. cond (n.0 k) (record i { op = ops.Known copy_op; operands = from_incoming c i.operands }) i in
            let one : Stretch K (Start c (i ∷ is)) (Start (c + phi_number t i) is) (item_of t h b i ∷ []) (item_of t g c' i ∷ []) =
            strengthened K (Equal bound) (Start (c + phi_number t i) is) (Start c (i ∷ is)) (item_of t h b i ∷ []) (item_of t g c' i ∷ []) (equal-start c (i ∷ is) n)
            (lessened K (Equal bound) (Equal bound) (Start (c + phi_number t i) is) (item_of t h b i ∷ []) (item_of t g c' i ∷ []) (start-equal (c + phi_number t i) is n.1) (one-other i e nm to)) in
            subst (λ j. Stretch K (Start c (i ∷ is)) (Behind bound A) (map (item_of t h b) (i ∷ is)) (map (item_of t g c') (set_before t new (j ∷ rest)))) (sym same)
            (subst (λ y. Stretch K (Start c (i ∷ is)) (Behind bound A) (map (item_of t h b) (i ∷ is)) (map (item_of t g c') (cond y (new ++ i ∷ rest) (i ∷ set_before t new rest)))) (sym e)
            (joined K (Start c (i ∷ is)) (Start (c + phi_number t i) is) (Behind bound A) (item_of t h b i ∷ []) (item_of t g c' i ∷ []) (map (item_of t h b) is) (map (item_of t g c') (set_before t new rest)) one (body (c + phi_number t i) s)))
        body c (ends {i = i} {is = is} e) =
            let n = ends-plain A b (i ∷ is) e in
            let front : Stretch K (Start c (i ∷ is)) (Behind bound A) [] (map (item_of t g c') new) =
            strengthened K (Start c []) (Behind bound A) (Start c (i ∷ is)) [] (map (item_of t g c') new) (equal-start c (i ∷ is) n) (last-copies (Start c [])) in
            subst (λ js. Stretch K (Start c (i ∷ is)) (Behind bound A) (map (item_of t h b) (i ∷ is)) (map (item_of t g c') (set_before t new js))) (sym (none-placed c (i ∷ is) n))
            (subst (λ y. Stretch K (Start c (i ∷ is)) (Behind bound A) (map (item_of t h b) (i ∷ is)) (map (item_of t g c') (cond y (new ++ i ∷ is) (i ∷ set_before t new is)))) (sym e.0.ends)
            (subst (λ q. Stretch K (Start c (i ∷ is)) (Behind bound A) (map (item_of t h b) (i ∷ is)) q) (sym (map-append (item_of t g c') new (i ∷ is)))
            (joined K (Start c (i ∷ is)) (Behind bound A) (Behind bound A) [] (map (item_of t g c') new) (map (item_of t h b) (i ∷ is)) (map (item_of t g c') (i ∷ is)) front (all-ends (i ∷ is) e))))
