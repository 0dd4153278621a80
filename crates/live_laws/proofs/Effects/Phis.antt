-- What phis read on the ways into their block, and that their results begin where they stand.
use Rattle.std.proofs.Common.{◌≡◌, ◌⊎◌, ◌≤◌, ℕ, zero, suc, Bool, true, false, cond, List, [], ◌∷◌, ◌++◌, Option, Some, None, map, flat_map, length, take, refl, sym, ap, ◌∙◌, subst, inl, inr, eqb-true, eq-eqb, arith}
use Rattle.std.specs.Prelude.{nat_eq, slice_get, find}
use Rattle.std.specs.List.{list_all}
use Rattle.target_base.specs.declared.types.Target.{Target}
use Rattle.target_base.specs.Rules.{is_phi}
use Rattle.target_base.proofs.Tests.{first_of_both, second_of_both}
use Rattle.meaning.specs.declared.types.Lane.{Lane}
use Rattle.meaning.specs.declared.types.Lane.TheVariants.{SlotLane}
use Rattle.meaning.specs.declared.types.Source.{Source}
use Rattle.meaning.specs.declared.types.Source.TheVariants.{FromLane}
use Rattle.meaning.specs.declared.types.Fill.TheVariants.{Moved}
use Rattle.meaning.specs.declared.types.Write.{Write}
use Rattle.meaning.specs.Lanes.{Writes, filled}
use Rattle.meaning.specs.Code.{Item, Silent, Code as Places}
use Rattle.meaning.specs.Live.{Among as Member, here as first, there as later, reads_of, exits_of as edges_of, Feeds, is_slot, Live as LivePlace, read, next as onward, leap, phi as joined, store, kept}
use Rattle.mir_func.specs.declared.func.RegOp.{RegOp}
use Rattle.mir_func.specs.declared.func.Operand.{Operand}
use Rattle.mir_func.specs.declared.func.Operand.TheVariants as operands
use Rattle.mir_func.specs.declared.func.Instr.{Instr}
use Rattle.mir_func.specs.declared.func.Block.{Block}
use Rattle.mir_func.specs.Value.{Function}
use Rattle.mir_func.specs.Binding.{registers, does}
use Rattle.mir_meaning.specs.Registers.{operand_lanes, undefined_lanes, use_sources}
use Rattle.mir_meaning.specs.Items.{write, moved, undefined, defined, defined_undef}
use Rattle.mir_meaning.specs.Codes.{item_of, phi_pair, phi_operands, phi_writes, phis_written, instrs_of}
use Rattle.mir_meaning.specs.Points.{point_item}
use Rattle.mir_meaning.specs.Rules.{block_numbers, block_of}
use Rattle.instr_effects.proofs.Pairs.{written-of}
use Rattle.instr_effects.proofs.Members.{member-none, member-elim, left-in, right-in, in-either, map-in}
use Rattle.instr_effects.proofs.Plain.{filled-cases, moved-same}
use Rattle.instr_effects.specs.Ends.{pairs_of, pairs_behind}
use Rattle.live_laws.proofs.Effects.Moved.{Apart, moved-of, undefined-lane, undefined-fill, undefined-in}
use Rattle.live_laws.proofs.Effects.Moving.{some-same}
use Rattle.live_laws.proofs.Effects.Blocks.{slice-member, member-slice}

-- pairs of a phi

pub pair-register : (os : List Operand) (p : RegOp × ℕ) → Member p (pairs_of os) → Member p.0 (registers os)
pair-register [] p m = absurd (member-none p m)
pair-register (operands.Reg s ∷ operands.Block n ∷ os) p m = member-elim p (s, n) (pairs_of os) (λ e. subst (λ x. Member p.0 (x ∷ registers os)) (ap (λ q. q.0) e) first) (λ k. later (pair-register os p k)) m
pair-register os p m = absurd (member-none p m)

pub pair-named : (os : List Operand) (p : RegOp × ℕ) → Member p (pairs_of os) → Member p.1 (flat_map block_of os)
pair-named [] p m = absurd (member-none p m)
pair-named (operands.Reg s ∷ operands.Block n ∷ os) p m = member-elim p (s, n) (pairs_of os) (λ e. subst (λ x. Member p.1 (x ∷ flat_map block_of os)) (ap (λ q. q.1) e) first) (λ k. later (pair-named os p k)) m
pair-named os p m = absurd (member-none p m)

module _ (t : Target) (f : Function) where
  abbrev LaneOf : RegOp → Lane → Type 0
  LaneOf d l = Member l (operand_lanes t f d) ⊎ Member l (undefined_lanes t f d)

  defined-lane : (d : RegOp) (ss : List Source) (w : Write) → Member w (defined t f false d ss) → LaneOf d w.lane
  defined-lane d ss w m = go (in-either w (moved false (operand_lanes t f d) ss) (undefined false (undefined_lanes t f d)) m)
    where
      go : Member w (moved false (operand_lanes t f d) ss) ⊎ Member w (undefined false (undefined_lanes t f d)) → LaneOf d w.lane
      go (inl k) = inl (moved-of false w (operand_lanes t f d) ss k).1
      go (inr k) = inr (undefined-lane false w (undefined_lanes t f d) k)

  from-moved : (s : Source) (l : Lane) → Moved s ≡ Moved (FromLane l) → s ≡ FromLane l
  from-moved s l e = cc

  defined-source : (d : RegOp) (ss : List Source) (w : Write) (l : Lane) → Member w (defined t f false d ss) → w.fill ≡ Moved (FromLane l) → Member (FromLane l) ss
  defined-source d ss w l m e = go (in-either w (moved false (operand_lanes t f d) ss) (undefined false (undefined_lanes t f d)) m)
    where
      go : Member w (moved false (operand_lanes t f d) ss) ⊎ Member w (undefined false (undefined_lanes t f d)) → Member (FromLane l) ss
      go (inl k) = let z = moved-of false w (operand_lanes t f d) ss k in subst (λ x. Member x ss) (from-moved z.0 l (sym z.3 ∙ e)) z.2
      go (inr k) = absurd (let h = sym (undefined-fill false w (undefined_lanes t f d) k) ∙ e in cc)

  -- what a pair writes
  pair-of : (n : ℕ) (d : RegOp) (os : List Operand) (w : Write) → Member w (phi_pair t f n d os) → (s : RegOp) × Member (s, n) (pairs_of os) × Member w (defined t f false d (use_sources t f s))
  pair-of n d [] w m = absurd (member-none w m)
  pair-of n d (operands.Reg s ∷ operands.Block k ∷ os) w m = go (nat_eq k n) refl m (pair-of n d os w)
    where
      pair-is : (a b : ℕ) → a ≡ b → Member (s, b) ((s, a) ∷ pairs_of os)
      pair-is a b e = subst (λ x. Member (s, b) ((s, x) ∷ pairs_of os)) (sym e) first

      go : (q : Bool) → nat_eq k n ≡ q → Member w (cond q (defined t f false d (use_sources t f s)) (phi_pair t f n d os)) → (Member w (phi_pair t f n d os) → (x : RegOp) × Member (x, n) (pairs_of os) × Member w (defined t f false d (use_sources t f x))) → (x : RegOp) × Member (x, n) ((s, k) ∷ pairs_of os) × Member w (defined t f false d (use_sources t f x))
      go true e j ih = (s, pair-is k n (eqb-true k n e), j)
      go false e j ih = let z = ih j in (z.0, later z.1, z.2)
  pair-of n d os w m = absurd (member-none w m)

  -- the lanes that a phi begins where it stands
  abbrev pub begun : List Operand → List Lane
  begun (operands.Reg d ∷ os) = operand_lanes t f d ++ undefined_lanes t f d
  begun _ = []

  begun-is : (os : List Operand) → defined_undef t f os ≡ undefined false (begun os)
  begun-is [] = refl
  begun-is (operands.Reg d ∷ os) = refl
  begun-is (o ∷ os) = refl

  -- what a phi writes on the way from block n
  abbrev pub PhiWrite : ℕ → List Operand → Write → Type 0
  PhiWrite n os w = (d : RegOp) × (s : RegOp) × Member s (registers os) × Member (s, n) (pairs_behind os) × Member w (defined t f false d (use_sources t f s)) × Member w.lane (begun os)

  lane-in : (d : RegOp) (l : Lane) → LaneOf d l → Member l (operand_lanes t f d ++ undefined_lanes t f d)
  lane-in d l (inl m) = left-in l (operand_lanes t f d) (undefined_lanes t f d) m
  lane-in d l (inr m) = right-in l (operand_lanes t f d) (undefined_lanes t f d) m

  operands-write : (n : ℕ) (os : List Operand) (w : Write) → Member w (phi_operands t f n os) → PhiWrite n os w
  operands-write n [] w m = absurd (member-none w m)
  operands-write n (operands.Reg d ∷ os) w m = let z = pair-of n d os w m in (d, z.0, later (pair-register os (z.0, n) z.1), z.1, z.2, lane-in d w.lane (defined-lane d (use_sources t f z.0) w z.2))
  operands-write n (o ∷ os) w m = absurd (member-none w m)

  pub phi-write : (n : ℕ) (i : Instr) (w : Write) → Member w (phi_writes t f n i) → (does is_phi t i ≡ true) × PhiWrite n i.operands w
  phi-write n i w m = go (does is_phi t i) m
    where
      go : (b : Bool) → Member w (cond b (phi_operands t f n i.operands) []) → (b ≡ true) × PhiWrite n i.operands w
      go true k = (refl, operands-write n i.operands w k)
      go false k = absurd (member-none w k)

  pub phi-source : (n : ℕ) (os : List Operand) (w : Write) (l : Lane) (z : PhiWrite n os w) → w.fill ≡ Moved (FromLane l) → Member (FromLane l) (use_sources t f z.1)
  phi-source n os w l z e = defined-source z.0 (use_sources t f z.1) w l z.4 e

  -- a pair whose block no other names writes its sources

  pub pair-in : (n : ℕ) (d s : RegOp) (os : List Operand) (w : Write) → Apart (flat_map block_of os) → Member (s, n) (pairs_of os) → Member w (defined t f false d (use_sources t f s)) → Member w (phi_pair t f n d os)
  pair-in n d s [] w p m k = absurd (member-none (s, n) m)
  pair-in n d s (operands.Reg x ∷ operands.Block j ∷ os) w p m k =
      member-elim (s, n) (x, j) (pairs_of os) (λ e. at (ap (λ q. q.0) e) (ap (λ q. q.1) e)) (λ i. past (nat_eq j n) refl (pair-named os (s, n) i) (pair-in n d s os w p.1 i k)) m
    where
      W : Writes
      W = defined t f false d (use_sources t f x)

      at : s ≡ x → n ≡ j → Member w (cond (nat_eq j n) (defined t f false d (use_sources t f x)) (phi_pair t f n d os))
      at e g = subst (λ b. Member w (cond b (defined t f false d (use_sources t f x)) (phi_pair t f n d os))) (sym (eq-eqb j n (sym g))) (subst (λ y. Member w (defined t f false d (use_sources t f y))) e k)

      past : (b : Bool) → nat_eq j n ≡ b → Member n (flat_map block_of os) → Member w (phi_pair t f n d os) → Member w (cond b (defined t f false d (use_sources t f x)) (phi_pair t f n d os))
      past false e q i = i
      past true e q i = absurd (p.0 (subst (λ y. Member y (flat_map block_of os)) (sym (eqb-true j n e)) q))
  pair-in n d s os w p m k = absurd (member-none (s, n) m)

  moved-source-in : (x : Source) (ds : List Lane) (ss : List Source) → length ss ≤ length ds → Member x ss → (w : Write) × Member w (moved false ds ss) × (w.fill ≡ Moved x)
  moved-source-in x ds [] h m = absurd (member-none x m)
  moved-source-in x [] (s ∷ ss) h m = absurd (omega arith)
  moved-source-in x (d ∷ ds) (s ∷ ss) h m = member-elim x s ss (λ e. (write false d (Moved s), first, ap Moved (sym e))) (λ k. let z = moved-source-in x ds ss (omega arith) k in (z.0, later z.1, z.2)) m

  -- each source of such a pair is written
  pub source-written : (n : ℕ) (os : List Operand) (s : RegOp) (l : Lane) → ((d : RegOp) (rest : List Operand) → os ≡ operands.Reg d ∷ rest → length (use_sources t f s) ≤ length (operand_lanes t f d)) → Apart (flat_map block_of os) → Member (s, n) (pairs_behind os) → Member (FromLane l) (use_sources t f s) → (w : Write) × Member w (phi_operands t f n os) × (w.fill ≡ Moved (FromLane l))
  source-written n [] s l h p m k = absurd (member-none (s, n) m)
  source-written n (operands.Reg d ∷ os) s l h p m k =
      let z = moved-source-in (FromLane l) (operand_lanes t f d) (use_sources t f s) (h d os refl) k in
      (z.0, pair-in n d s os z.0 p m (left-in z.0 (moved false (operand_lanes t f d) (use_sources t f s)) (undefined false (undefined_lanes t f d)) z.1), z.2)
  source-written n (o ∷ os) s l h p m k = absurd (member-none (s, n) m)

-- an item that only makes lanes undefined hides these, and no others

undef-feeds : (ls : List Lane) (l a : Lane) → filled (undefined false ls) a ≡ Moved (FromLane l) → (l ≡ a) × (Member a ls → ⊥)
undef-feeds ls l a f = go (filled-cases (undefined false ls) a)
  where
    go : ((w : Write) × Member w (undefined false ls) × (w.lane ≡ a) × (filled (undefined false ls) a ≡ w.fill)) ⊎ ((filled (undefined false ls) a ≡ Moved (FromLane a)) × ((w : Write) → Member w (undefined false ls) → w.lane ≡ a → ⊥)) → (l ≡ a) × (Member a ls → ⊥)
    go (inl z) = absurd (let e = undefined-fill false z.0 ls z.1 in let g = sym z.3 ∙ f in cc)
    go (inr z) = (moved-same l a (sym f ∙ z.0), λ m. let y = undefined-in false a ls m in z.1 y.0 y.1 y.2)

module _ (reserved : Lane → Bool) (places : Places) where
  abbrev Behind : Places → List Lane → Lane → Type 0
  Behind p ls l = LivePlace reserved places p l × (Member l ls → ⊥)

  same-head : (i j : Item) (p q : Places) → i ∷ p ≡ j ∷ q → i ≡ j
  same-head i j p q e = cc

  same-tail : (i j : Item) (p q : Places) → i ∷ p ≡ j ∷ q → p ≡ q
  same-tail i j p q e = cc

  hidden : {q : Places} {l : Lane} → LivePlace reserved places q l → (ls : List Lane) (p : Places) → q ≡ Silent [] (undefined false ls) ∷ p → Behind p ls l
  hidden (read {i = i} {p = r} {ss = ss} m n h) ls p e = absurd (member-none ss (subst (Member ss) (ap reads_of (same-head i (Silent [] (undefined false ls)) r p e)) m))
  hidden (onward {i = i} {p = r} {l = l} {a = a} o h f g) ls p e =
      let z = undef-feeds ls l a (subst (λ x. Feeds x l a) (same-head i (Silent [] (undefined false ls)) r p e) f) in
      (subst (λ x. LivePlace reserved places p x) (sym z.0) (subst (λ x. LivePlace reserved places x a) (same-tail i (Silent [] (undefined false ls)) r p e) h), λ m. z.1 (subst (λ x. Member x ls) z.0 m))
  hidden (leap {i = i} {p = r} {e = x} m h w f g) ls p e = absurd (member-none x (subst (Member x) (ap edges_of (same-head i (Silent [] (undefined false ls)) r p e)) m))
  hidden (joined {i = i} {p = r} {e = x} m w k f g) ls p e = absurd (member-none x (subst (Member x) (ap edges_of (same-head i (Silent [] (undefined false ls)) r p e)) m))
  hidden (store w {i = i} {p = r} {s = s} {k = k} {l = l} o h f n g) ls p e =
      let z = undef-feeds ls l (SlotLane s k w) (subst (λ x. Feeds x l (SlotLane s k w)) (same-head i (Silent [] (undefined false ls)) r p e) f) in
      absurd (let y = ap is_slot z.0 in cc)
  hidden (kept {i = i} {p = r} {l = l} {a = a} h f g) ls p e =
      let z = undef-feeds ls l a (subst (λ x. Feeds x l a) (same-head i (Silent [] (undefined false ls)) r p e) f) in
      absurd (let y = ap reserved z.0 in cc)

  module _ (t : Target) (f : Function) (b : Block) (n : ℕ) where
    -- phis stand before all else
    abbrev pub PhisFirst : List Instr → Type 0
    PhisFirst is = (j : ℕ) (i : Instr) → slice_get is j ≡ Some i → does is_phi t i ≡ true → list_all (does is_phi t) (take j is) ≡ true

    phi-item : (i : Instr) → does is_phi t i ≡ true → point_item t f b i ≡ Silent [] (undefined false (begun t f i.operands))
    unfolding point_item
    phi-item i e = ap (λ q. cond q (Silent [] (defined_undef t f i.operands)) (item_of t f b i)) e ∙ ap (λ ws. Silent [] ws) (begun-is t f i.operands)

    later-none : (i : Instr) (is : List Instr) → PhisFirst (i ∷ is) → does is_phi t i ≡ false → (w : Write) → Member w (phis_written t f n (i ∷ is)) → ⊥
    later-none i is h e w m = let z = written-of t f n w (i ∷ is) m in at z.0 (member-slice z.0 (i ∷ is) z.1) (phi-write t f n z.0 w z.2).0
      where
        at : (x : Instr) → ((k : ℕ) × (slice_get (i ∷ is) k ≡ Some x)) → does is_phi t x ≡ true → ⊥
        at x y g = by y.0 y.1
          where
            by : (k : ℕ) → slice_get (i ∷ is) k ≡ Some x → ⊥
            by zero q = let same = some-same i x q in let c = ap (does is_phi t) same in cc
            by (suc k) q = let c = first_of_both (does is_phi t i) (list_all (does is_phi t) (take k is)) (h (suc k) x q g) in cc

    -- what is live at a block's start isn't written on the way in
    pub unbegun : (is : List Instr) (p : Places) (l : Lane) → PhisFirst is → LivePlace reserved places (map (point_item t f b) is ++ p) l → (w : Write) → Member w (phis_written t f n is) → w.lane ≡ l → ⊥
    unbegun [] p l h live w m e = member-none w m
    unbegun (i ∷ is) p l h live w m e = go (does is_phi t i) refl (unbegun is p l less)
      where
        less : PhisFirst is
        less j x g k = second_of_both (does is_phi t i) (list_all (does is_phi t) (take j is)) (h (suc j) x g k)

        go : (q : Bool) → does is_phi t i ≡ q → (LivePlace reserved places (map (point_item t f b) is ++ p) l → (v : Write) → Member v (phis_written t f n is) → v.lane ≡ l → ⊥) → ⊥
        go false g ih = later-none i is h g w m
        go true g ih =
            let z = hidden live (begun t f i.operands) (map (point_item t f b) is ++ p) (ap (λ x. x ∷ (map (point_item t f b) is ++ p)) (phi-item i g)) in
            split z (in-either w (phis_written t f n is) (phi_writes t f n i) m)
          where
            split : Behind (map (point_item t f b) is ++ p) (begun t f i.operands) l → Member w (phis_written t f n is) ⊎ Member w (phi_writes t f n i) → ⊥
            split z (inl k) = ih z.0 w k e
            split z (inr k) = let y = phi-write t f n i w k in z.1 (subst (λ x. Member x (begun t f i.operands)) e y.1.5)

-- the instructions of the block of a number
pub instrs-are : (bs : List Block) (x : ℕ) (b : Block) → slice_get bs x ≡ Some b → Apart (block_numbers bs) → instrs_of bs b.number ≡ b.instrs
instrs-are [] x b e p = absurd (cc)
instrs-are (c ∷ bs) zero b e p = let same = some-same c b e in subst (λ d. instrs_of (c ∷ bs) d.number ≡ d.instrs) same (ap (λ (q : Option Block). elim q [ None ↦ [] | Some d ↦ d.instrs ]) (ap (λ q. cond q (Some c) (find (λ d. nat_eq d.number c.number) bs)) (eq-eqb c.number c.number refl)))
instrs-are (c ∷ bs) (suc x) b e p =
    ap (λ (q : Option Block). elim q [ None ↦ [] | Some d ↦ d.instrs ]) (ap (λ q. cond q (Some c) (find (λ d. nat_eq d.number b.number) bs)) (other (nat_eq c.number b.number) refl)) ∙ instrs-are bs x b e p.1
  where
    other : (q : Bool) → nat_eq c.number b.number ≡ q → nat_eq c.number b.number ≡ false
    other false g = g
    other true g = absurd (p.0 (subst (λ n. Member n (block_numbers bs)) (sym (eqb-true c.number b.number g)) (map-in (λ d. d.number) b bs (slice-member bs x b e))))

-- a number is that of one block
pub one-block : (bs : List Block) (x y : ℕ) (b c : Block) → slice_get bs x ≡ Some b → slice_get bs y ≡ Some c → b.number ≡ c.number → Apart (block_numbers bs) → b ≡ c
one-block [] x y b c e g h p = absurd (cc)
one-block (d ∷ bs) zero zero b c e g h p = some-same b c (sym e ∙ g)
one-block (d ∷ bs) zero (suc y) b c e g h p = absurd (p.0 (subst (λ n. Member n (block_numbers bs)) (sym h ∙ ap (λ z. z.number) (some-same b d (sym e))) (map-in (λ z. z.number) c bs (slice-member bs y c g))))
one-block (d ∷ bs) (suc x) zero b c e g h p = absurd (p.0 (subst (λ n. Member n (block_numbers bs)) (h ∙ ap (λ z. z.number) (some-same c d (sym g))) (map-in (λ z. z.number) b bs (slice-member bs x b e))))
one-block (d ∷ bs) (suc x) (suc y) b c e g h p = one-block bs x y b c e g h p.1
