-- Lists whose elements are apart, and the lanes of operands among them.
use Rattle.std.proofs.Common.{◌≡◌, ◌≤◌, ℕ, zero, suc, Bool, true, false, cond, not, ◌||◌, List, [], ◌∷◌, Option, Some, None, map, length, refl, sym, ap, ◌∙◌, subst, eq-eqb, arith}
use Rattle.std.specs.Prelude.{◌==◌, slice_get}
use Rattle.std.specs.List.{list_all, list_any}
use Rattle.std.proofs.lemmas.Option.{slice_get_within, get_or_from_slice_get}
use Rattle.target_base.specs.declared.types.IndexId.{IndexId}
use Rattle.target_base.specs.declared.types.IndexDesc.{IndexDesc}
use Rattle.target_base.specs.declared.types.Reg.{Reg}
use Rattle.target_base.specs.declared.types.RegDesc.{RegDesc}
use Rattle.target_base.specs.declared.types.Unit.{Unit as UnitNumber}
use Rattle.target_base.specs.declared.types.Target.{Target}
use Rattle.target_base.specs.Registers.{units_of, lanes_of, lanes_in}
use Rattle.target_base.specs.Storage.{units_in}
use Rattle.target_base.specs.Names.{are_distinct_numbers}
use Rattle.target_base.specs.Rules.{is_reg_desc, is_index_desc}
use Rattle.target_base.proofs.Tests.{first_of_both, second_of_both, each_passes}
use Rattle.target_base.proofs.Sound.{regs_sound, indexes_sound}
use Rattle.meaning.specs.declared.types.Lane.{Lane}
use Rattle.meaning.specs.declared.types.Lane.TheVariants.{VirtualLane, UnitLane}
use Rattle.meaning.specs.declared.types.Source.TheVariants.{FromLane, Undef}
use Rattle.meaning.specs.Live.{Among as Member, here as first, there as later}
use Rattle.mir_func.specs.declared.func.Loc.{Loc}
use Rattle.mir_func.specs.declared.func.Loc.TheVariants.{Virtual, Fixed}
use Rattle.mir_func.specs.declared.func.RegOp.{RegOp}
use Rattle.mir_func.specs.Value.{Function}
use Rattle.mir_meaning.specs.Registers.{numbers, operand_lanes, located_lanes, use_sources, range_widths, slot_lanes}
use Rattle.instr_effects.specs.declared.owner.Owner.TheVariants as owners
use Rattle.instr_effects.specs.Owners.{owner_of, owners_read}
use Rattle.instr_effects.proofs.Members.{member-none, member-elim, map-of, map-in}
use Rattle.live_laws.proofs.Effects.Moved.{Apart}

pub any-in : {X : Type 0} (p : X → Bool) (x : X) (xs : List X) → Member x xs → p x ≡ true → list_any p xs ≡ true
any-in p x [] m e = absurd (member-none x m)
any-in p x (y ∷ xs) m e = member-elim x y xs (λ f. ap (λ b. b || list_any p xs) (ap p (sym f) ∙ e)) (λ k. past (p y) (any-in p x xs k e)) m
  where
    past : (b : Bool) → list_any p xs ≡ true → (b || list_any p xs) ≡ true
    past true h = refl
    past false h = h

pub all-of : {X : Type 0} (p : X → Bool) (x : X) (xs : List X) → Member x xs → list_all p xs ≡ true → p x ≡ true
all-of p x [] m e = absurd (member-none x m)
all-of p x (y ∷ xs) m e = member-elim x y xs (λ f. ap p f ∙ first_of_both (p y) (list_all p xs) e) (λ k. all-of p x xs k (second_of_both (p y) (list_all p xs) e)) m

not-both : (b : Bool) → not b ≡ true → b ≡ true → ⊥
not-both true e f = cc
not-both false e f = cc

pub distinct-apart : (ns : List ℕ) → are_distinct_numbers ns ≡ true → Apart ns
distinct-apart [] e = tt
distinct-apart (n ∷ ns) e = (
  (λ m. not-both (list_any (λ k. n == k) ns) (first_of_both (not (list_any (λ k. n == k) ns)) (are_distinct_numbers ns) e) (any-in (λ k. n == k) n ns m (eq-eqb n n refl))),
  distinct-apart ns (second_of_both (not (list_any (λ k. n == k) ns)) (are_distinct_numbers ns) e),
)

numbers-above : (u n k : ℕ) → Member u (numbers n k) → n ≤ u
numbers-above u n zero m = absurd (member-none u m)
numbers-above u n (suc k) m = member-elim u n (numbers (suc n) k) (λ e. omega (arith, e)) (λ j. let h = numbers-above u (suc n) k j in omega arith) m

pub numbers-apart : (n k : ℕ) → Apart (numbers n k)
numbers-apart n zero = tt
numbers-apart n (suc k) = ((λ m. let h = numbers-above n (suc n) k m in omega arith), numbers-apart (suc n) k)

-- lanes by numbers that are apart are apart
pub mapped-apart : {X Y Z : Type 0} (g : X → Y) (h : Y → Z) (xs : List X) → ((a b : X) → h (g a) ≡ h (g b) → a ≡ b) → Apart xs → Apart (map h (map g xs))
mapped-apart g h [] one p = tt
mapped-apart g h (x ∷ xs) one p = (
  (λ m. let z = map-of h (h (g x)) (map g xs) m in let y = map-of g z.0 xs z.1 in p.0 (subst (λ a. Member a xs) (sym (one x y.0 (z.2 ∙ ap h y.2))) y.1)),
  mapped-apart g h xs one p.1,
)

units-apart : (us : List UnitNumber) → Apart (map (λ u. u.0) us) → Apart (map owner_of (map (λ u. UnitLane u.0) us))
units-apart [] p = tt
units-apart (u ∷ us) p = (
  (λ m. let z = map-of owner_of (owners.Unit u.0) (map (λ w. UnitLane w.0) us) m in let y = map-of (λ w. UnitLane w.0) z.0 us z.1 in let e : u.0 ≡ y.0.0 = one u.0 y.0.0 (z.2 ∙ ap owner_of y.2) in p.0 (subst (λ a. Member a (map (λ w. w.0) us)) (sym e) (map-in (λ w. w.0) y.0 us y.1))),
  units-apart us p.1,
)
  where
    one : (a b : ℕ) → owners.Unit a ≡ owners.Unit b → a ≡ b
    one a b e = cc

module _ (t : Target) where
  index-sound : (o : Option IndexDesc) (k : ℕ) → slice_get t.indexes k ≡ o → are_distinct_numbers (lanes_in o) ≡ true
  index-sound None k e = refl
  index-sound (Some d) k e =
      let all = second_of_both _ _ (first_of_both _ _ (indexes_sound t.name t.version t.units t.regs t.reserved t.indexes t.classes t.masks t.opcodes t.sound)) in
      let p = each_passes (is_index_desc t.version) t.indexes k d (slice_get_within t.indexes k d e) all in
      second_of_both _ _ (rw (get_or_from_slice_get t.indexes k d d e) at p)

  pub lanes-apart : (x : IndexId) → Apart (lanes_of t x)
  lanes-apart x = distinct-apart (lanes_of t x) (index-sound (slice_get t.indexes x.0) x.0 refl)

  register-sound : (o : Option RegDesc) (k : ℕ) → slice_get t.regs k ≡ o → are_distinct_numbers (map (λ u. u.0) (units_in o)) ≡ true
  register-sound None k e = refl
  register-sound (Some d) k e =
      let all = second_of_both _ _ (first_of_both _ _ (regs_sound t.name t.version t.units t.regs t.reserved t.indexes t.classes t.masks t.opcodes t.sound)) in
      let p = each_passes (is_reg_desc t.version t.units) t.regs k d (slice_get_within t.regs k d e) all in
      second_of_both _ _ (first_of_both _ _ (rw (get_or_from_slice_get t.regs k d d e) at p))

  pub register-apart : (r : Reg) → Apart (map owner_of (map (λ u. UnitLane u.0) (units_of t r)))
  register-apart r = units-apart (units_of t r) (distinct-apart (map (λ u. u.0) (units_of t r)) (register-sound (slice_get t.regs r.0) r.0 refl))

  module _ (f : Function) where
    range-one : (v a b : ℕ) → owners.Range v a ≡ owners.Range v b → a ≡ b
    range-one v a b e = cc

    pub located-apart : (l : Loc) (x : Option IndexId) → Apart (map owner_of (located_lanes t f l x))
    located-apart (Virtual v) None = mapped-apart (VirtualLane v) owner_of (numbers 0 (length (range_widths t f v))) (range-one v) (numbers-apart 0 (length (range_widths t f v)))
    located-apart (Virtual v) (Some x) = mapped-apart (VirtualLane v) owner_of (lanes_of t x) (range-one v) (lanes-apart x)
    located-apart (Fixed r) x = register-apart r

    read-lanes : (ls : List Lane) → owners_read (map FromLane ls) ≡ map owner_of ls
    read-lanes [] = refl
    read-lanes (l ∷ ls) = ap (λ os. owner_of l ∷ os) (read-lanes ls)

    pub lanes-read-apart : (ls : List Lane) → Apart (map owner_of ls) → Apart (owners_read (map FromLane ls))
    lanes-read-apart ls p = subst (λ os. Apart os) (sym (read-lanes ls)) p

    read-none : (ls : List Lane) → owners_read (map (λ (l : Lane). Undef) ls) ≡ []
    read-none [] = refl
    read-none (l ∷ ls) = read-none ls

    pub use-apart : (o : RegOp) → Apart (owners_read (use_sources t f o))
    use-apart o = go o.undef
      where
        go : (b : Bool) → Apart (owners_read (map (cond b (λ l. Undef) FromLane) (operand_lanes t f o)))
        go true = subst (λ os. Apart os) (sym (read-none (operand_lanes t f o))) tt
        go false = lanes-read-apart (operand_lanes t f o) (located-apart o.loc o.index)

-- lanes of a slot

slot-of : (s k : ℕ) (ks ws : List ℕ) → Member (owners.Slot s k) (map owner_of (slot_lanes s ks ws)) → Member k ks
slot-of s k [] ws m = absurd (member-none (owners.Slot s k) m)
slot-of s k (j ∷ ks) [] m = absurd (member-none (owners.Slot s k) m)
slot-of s k (j ∷ ks) (w ∷ ws) m = member-elim (owners.Slot s k) (owners.Slot s j) (map owner_of (slot_lanes s ks ws)) (λ e. subst (λ x. Member x (j ∷ ks)) (let h : j ≡ k = cc in h) first) (λ i. later (slot-of s k ks ws i)) m

pub slots-apart : (s : ℕ) (ks ws : List ℕ) → Apart ks → Apart (map owner_of (slot_lanes s ks ws))
slots-apart s [] ws p = tt
slots-apart s (k ∷ ks) [] p = tt
slots-apart s (k ∷ ks) (w ∷ ws) p = ((λ m. p.0 (slot-of s k ks ws m)), slots-apart s ks ws p.1)
