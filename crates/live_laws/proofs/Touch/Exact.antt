-- Which lanes of virtual registers an instruction names, by its operands.
use Rattle.std.proofs.Common.{◌≡◌, ◌⊎◌, inl, inr, ◌≤◌, ℕ, Bool, true, false, cond, List, [], ◌∷◌, Option, Some, None, map, length, refl, sym, ap, ◌∙◌, subst, eq-eqb, arith}
use Rattle.std.specs.Prelude.{◌&&◌, nat_eq}
use Rattle.target_base.specs.declared.types.IndexId.{IndexId}
use Rattle.target_base.specs.declared.types.Target.{Target}
use Rattle.target_base.specs.Registers.{units_of, lanes_of}
use Rattle.meaning.specs.declared.types.Lane.TheVariants.{VirtualLane, UnitLane}
use Rattle.meaning.specs.Live.{Among as Member, here as first, there as later}
use Rattle.mir_func.specs.declared.func.Loc.{Loc}
use Rattle.mir_func.specs.declared.func.Loc.TheVariants.{Virtual, Fixed}
use Rattle.mir_func.specs.declared.func.RegOp.{RegOp}
use Rattle.mir_func.specs.Value.{Function}
use Rattle.mir_meaning.specs.Registers.{numbers, range_widths, whole_lanes, undefined_lanes}
use Rattle.mir_meaning.specs.Points.{is_range}
use Rattle.mir_func.specs.Binding.{is_virtual}
use Rattle.instr_effects.specs.declared.acts.Act.{Act}
use Rattle.instr_effects.specs.declared.owner.Owner.{Owner}
use Rattle.instr_effects.specs.declared.owner.Owner.TheVariants as owners
use Rattle.instr_effects.specs.Owners.{owner_of, located_owners, operand_owners}
use Rattle.instr_effects.specs.Acts.{plain, moved_acts, definition_acts, use_owners}
use Rattle.instr_effects.proofs.Members.{member-none, member-elim, left-in, in-either, map-of, map-in}
use Rattle.instr_effects.proofs.Operands.{read_owners_of}

-- moves of lanes

pub lane-in : (early : Bool) (o : Owner) (os : List Owner) (ss : List (Option Owner)) → length os ≤ length ss → Member o os → (a : Act) × Member a (moved_acts early os ss) × (a.lane ≡ o)
lane-in early o [] ss h m = absurd (member-none o m)
lane-in early o (p ∷ os) [] h m = absurd (omega arith)
lane-in early o (p ∷ os) (s ∷ ss) h m = member-elim o p os (λ e. (record { lane = p; from = s; early = early }, first, sym e)) (λ k. let z = lane-in early o os ss (omega arith) k in (z.0, later z.1, z.2)) m

pub from-in : (early : Bool) (q : Option Owner) (os : List Owner) (ss : List (Option Owner)) → length ss ≤ length os → Member q ss → (a : Act) × Member a (moved_acts early os ss) × (a.from ≡ q)
from-in early q os [] h m = absurd (member-none q m)
from-in early q [] (s ∷ ss) h m = absurd (omega arith)
from-in early q (p ∷ os) (s ∷ ss) h m = member-elim q s ss (λ e. (record { lane = p; from = s; early = early }, first, sym e)) (λ k. let z = from-in early q os ss (omega arith) k in (z.0, later z.1, z.2)) m

pub move-of : (early : Bool) (a : Act) (os : List Owner) (ss : List (Option Owner)) → Member a (moved_acts early os ss) → Member a.lane os × Member a.from ss
move-of early a [] ss m = absurd (member-none a m)
move-of early a (p ∷ os) [] m = absurd (member-none a m)
move-of early a (p ∷ os) (s ∷ ss) m =
    member-elim a (record { lane = p; from = s; early = early }) (moved_acts early os ss) (λ e. (subst (λ o. Member o (p ∷ os)) (sym (ap (λ b. b.lane) e)) first, subst (λ q. Member q (s ∷ ss)) (sym (ap (λ b. b.from) e)) first)) (λ k. let z = move-of early a os ss k in (later z.0, later z.1)) m

pub plain-in : (early : Bool) (o : Owner) (os : List Owner) → Member o os → (a : Act) × Member a (map (plain early) os) × (a.lane ≡ o)
plain-in early o os m = (plain early o, map-in (plain early) o os m, refl)

pub plain-of : (early : Bool) (a : Act) (os : List Owner) → Member a (map (plain early) os) → Member a.lane os × (a.from ≡ None)
plain-of early a os m = let z = map-of (plain early) a os m in (subst (λ o. Member o os) (sym (ap (λ b. b.lane) z.2)) z.1, ap (λ b. b.from) z.2)

-- lanes of virtual registers among those of operands

one-range : (v k w j : ℕ) → owners.Range v k ≡ owners.Range w j → nat_eq v w ≡ true
one-range v k w j e = eq-eqb v w (let h : v ≡ w = cc in h)

module _ (t : Target) (f : Function) where
  range-of : (v k : ℕ) (l : Loc) (x : Option IndexId) → Member (owners.Range v k) (located_owners t f l x) → is_range v l ≡ true
  range-of v k (Virtual w) None m =
      let z = map-of owner_of (owners.Range v k) (map (VirtualLane w) (numbers 0 (length (range_widths t f w)))) m in
      let y = map-of (VirtualLane w) z.0 (numbers 0 (length (range_widths t f w))) z.1 in
      one-range v k w y.0 (z.2 ∙ ap owner_of y.2)
  range-of v k (Virtual w) (Some x) m =
      let z = map-of owner_of (owners.Range v k) (map (VirtualLane w) (lanes_of t x)) m in
      let y = map-of (VirtualLane w) z.0 (lanes_of t x) z.1 in
      one-range v k w y.0 (z.2 ∙ ap owner_of y.2)
  range-of v k (Fixed r) x m =
      let z = map-of owner_of (owners.Range v k) (map (λ u. UnitLane u.0) (units_of t r)) m in
      let y = map-of (λ u. UnitLane u.0) z.0 (units_of t r) z.1 in
      absurd (let e = z.2 ∙ ap owner_of y.2 in cc)

  pub operand-range : (v k : ℕ) (o : RegOp) → Member (owners.Range v k) (operand_owners t f o) → is_range v o.loc ≡ true
  operand-range v k o m = range-of v k o.loc o.index m

  pub other-range : (v k : ℕ) (o : RegOp) → Member (owners.Range v k) (map owner_of (undefined_lanes t f o)) → is_range v o.loc ≡ true
  other-range v k o m = go (o.def && o.undef) o.loc m
    where
      whole : (x : Loc) → Member (owners.Range v k) (map owner_of (whole_lanes t f x)) → is_range v x ≡ true
      whole (Virtual w) j = range-of v k (Virtual w) None j
      whole (Fixed r) j = absurd (member-none (owners.Range v k) j)

      go : (b : Bool) (x : Loc) → Member (owners.Range v k) (map owner_of (cond b (whole_lanes t f x) [])) → is_range v x ≡ true
      go true x j = whole x j
      go false x j = absurd (member-none (owners.Range v k) j)

  pub use-of : (o : Owner) (u : RegOp) → Member o (use_owners t f u) → (u.undef ≡ false) × Member o (operand_owners t f u)
  use-of o u m = go u.undef refl (subst (Member o) (read_owners_of t f u) m)
    where
      go : (b : Bool) → u.undef ≡ b → Member o (cond b [] (operand_owners t f u)) → (u.undef ≡ false) × Member o (operand_owners t f u)
      go true e k = absurd (member-none o k)
      go false e k = (e, k)

  pub use-in : (o : Owner) (u : RegOp) → u.undef ≡ false → Member o (operand_owners t f u) → Member o (use_owners t f u)
  use-in o u e m = subst (Member o) (sym (read_owners_of t f u ∙ ap (λ b. cond b [] (operand_owners t f u)) e)) m

  -- one of these operands is a use that reads the lane
  abbrev pub Used : List RegOp → Owner → Type 0
  Used os o = (u : RegOp) × Member u os × Member o (use_owners t f u)

  -- one of them is a definition of the lane
  abbrev pub Defined : List RegOp → Owner → Type 0
  Defined os o = (d : RegOp) × Member d os × (d.def ≡ true) × (Member o (operand_owners t f d) ⊎ Member o (map owner_of (undefined_lanes t f d)))

  -- what is read and done names the lanes of virtual registers that these operands name
  pub record Exact (os : List RegOp) (rs : List Owner) (acts : List Act) : Type 0 where
    pub written : (d : RegOp) (o : Owner) → Member d os → d.def ≡ true → Member o (operand_owners t f d) → (a : Act) × Member a acts × (a.lane ≡ o)
    pub used : (u : RegOp) (o : Owner) → Member u os → u.def ≡ false → is_virtual u.loc ≡ true → Member o (use_owners t f u) → Member o rs ⊎ ((a : Act) × Member a acts × (a.from ≡ Some o))
    pub writes : (a : Act) (v k : ℕ) → Member a acts → a.lane ≡ owners.Range v k → Defined os (owners.Range v k)
    pub moves : (a : Act) (v k : ℕ) → Member a acts → a.from ≡ Some (owners.Range v k) → Used os (owners.Range v k)
    pub reads : (v k : ℕ) → Member (owners.Range v k) rs → Used os (owners.Range v k)

  no-use : (b : Bool) → b ≡ true → b ≡ false → ⊥
  no-use b e g = let h : true ≡ false = sym e ∙ g in cc

  module _ (d : RegOp) (us : List RegOp) (def : d.def ≡ true) (plain-uses : (u : RegOp) → Member u us → u.def ≡ false) where
    only : (x : RegOp) → Member x (d ∷ us) → x.def ≡ true → x ≡ d
    only x m e = member-elim x d us (λ g. g) (λ k. absurd (no-use x.def e (plain-uses x k))) m

    behind : (u : RegOp) → Member u (d ∷ us) → u.def ≡ false → Member u us
    behind u m e = member-elim u d us (λ g. absurd (no-use d.def def (ap (λ x. x.def) (sym g) ∙ e))) (λ k. k) m

    later-used : (o : Owner) → Used us o → Used (d ∷ us) o
    later-used o z = (z.0, later z.1, z.2)

    -- a definition that is given sources, which are moved
    pub given-exact : (early : Bool) (ss : List (Option Owner)) → length (operand_owners t f d) ≤ length ss → length ss ≤ length (operand_owners t f d) → ((u : RegOp) (o : Owner) → Member u us → Member o (use_owners t f u) → Member (Some o) ss) → ((v k : ℕ) → Member (Some (owners.Range v k)) ss → Used us (owners.Range v k)) → Exact (d ∷ us) [] (definition_acts t f early d ss)
    given-exact early ss long short given from = record {
      written = λ x o m e j. let z = lane-in early o (operand_owners t f d) ss long (subst (λ y. Member o (operand_owners t f y)) (only x m e) j) in (z.0, left-in z.0 M P z.1, z.2);
      used = λ u o m e w j. let z = from-in early (Some o) (operand_owners t f d) ss short (given u o (behind u m e) j) in inr (z.0, left-in z.0 M P z.1, z.2);
      writes = λ a v k m e. (d, first, def, wrote a (owners.Range v k) e (in-either a M P m));
      moves = λ a v k m e. later-used (owners.Range v k) (moved a v k e (in-either a M P m));
      reads = λ v k m. absurd (member-none (owners.Range v k) m);
    }
      where
        M : List Act
        M = moved_acts early (operand_owners t f d) ss

        P : List Act
        P = map (plain early) (map owner_of (undefined_lanes t f d))

        wrote : (a : Act) (o : Owner) → a.lane ≡ o → Member a M ⊎ Member a P → Member o (operand_owners t f d) ⊎ Member o (map owner_of (undefined_lanes t f d))
        wrote a o e (inl m) = inl (subst (λ x. Member x (operand_owners t f d)) e (move-of early a (operand_owners t f d) ss m).0)
        wrote a o e (inr m) = inr (subst (λ x. Member x (map owner_of (undefined_lanes t f d))) e (plain-of early a (map owner_of (undefined_lanes t f d)) m).0)

        moved : (a : Act) (v k : ℕ) → a.from ≡ Some (owners.Range v k) → Member a M ⊎ Member a P → Used us (owners.Range v k)
        moved a v k e (inl m) = from v k (subst (λ x. Member x ss) e (move-of early a (operand_owners t f d) ss m).1)
        moved a v k e (inr m) = absurd (let g = sym (plain-of early a (map owner_of (undefined_lanes t f d)) m).1 ∙ e in cc)

    -- a whole definition beside uses that are read
    pub filled-exact : (rs : List Owner) → ((u : RegOp) (o : Owner) → Member u us → Member o (use_owners t f u) → Member o rs) → ((v k : ℕ) → Member (owners.Range v k) rs → Used us (owners.Range v k)) → Exact (d ∷ us) rs (map (plain false) (operand_owners t f d))
    filled-exact rs given from = record {
      written = λ x o m e j. plain-in false o (operand_owners t f d) (subst (λ y. Member o (operand_owners t f y)) (only x m e) j);
      used = λ u o m e w j. inl (given u o (behind u m e) j);
      writes = λ a v k m e. (d, first, def, inl (subst (λ x. Member x (operand_owners t f d)) e (plain-of false a (operand_owners t f d) m).0));
      moves = λ a v k m e. absurd (let g = sym (plain-of false a (operand_owners t f d) m).1 ∙ e in cc);
      reads = λ v k m. later-used (owners.Range v k) (from v k m);
    }

  -- a use whose lanes are moved to those of a slot
  pub stored-exact : (u : RegOp) (s : ℕ) (ks : List ℕ) (ss : List (Option Owner)) → u.def ≡ false → length ss ≤ length (map (owners.Slot s) ks) → ((o : Owner) → Member o (use_owners t f u) → Member (Some o) ss) → ((o : Owner) → Member (Some o) ss → Member o (use_owners t f u)) → Exact (u ∷ []) [] (moved_acts false (map (owners.Slot s) ks) ss)
  stored-exact u s ks ss reading short given from = record {
    written = λ x o m e j. absurd (no-use x.def e (ap (λ y. y.def) (one x m) ∙ reading));
    used = λ x o m e w j. inr (from-in false (Some o) (map (owners.Slot s) ks) ss short (given o (subst (λ y. Member o (use_owners t f y)) (one x m) j)));
    writes = λ a v k m e. absurd (slot a v k e (move-of false a (map (owners.Slot s) ks) ss m).0);
    moves = λ a v k m e. (u, first, from (owners.Range v k) (subst (λ x. Member x ss) e (move-of false a (map (owners.Slot s) ks) ss m).1));
    reads = λ v k m. absurd (member-none (owners.Range v k) m);
  }
    where
      one : (x : RegOp) → Member x (u ∷ []) → x ≡ u
      one x m = member-elim x u [] (λ e. e) (λ k. absurd (member-none x k)) m

      slot : (a : Act) (v k : ℕ) → a.lane ≡ owners.Range v k → Member a.lane (map (owners.Slot s) ks) → ⊥
      slot a v k e m = let z = map-of (owners.Slot s) a.lane ks m in let g = sym e ∙ z.2 in cc
