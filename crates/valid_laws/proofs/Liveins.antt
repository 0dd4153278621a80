-- Live-ins of the physical form are those of its live units.
use Rattle.std.proofs.Common.{◌≡◌, ◌↔◌, ◌<◌, ◌≤◌, ◌∙◌, ◌&&◌, ◌||◌, not, ℕ, zero, suc, Bool, true, cond, List, [], ◌∷◌, Option, Some, None, map, length, refl, sym, ap, subst, eq-eqb, ltb-true}
use Rattle.std.specs.Prelude.{flat_map, nat_eq, nat_lt, slice_get}
use Rattle.std.specs.List.{list_all, list_any}
use Rattle.std.proofs.lemmas.Option.{slice_get_within}
use Rattle.target_base.specs.declared.types.ClassId.{ClassId}
use Rattle.target_base.specs.declared.types.Reg.{Reg}
use Rattle.target_base.specs.declared.types.RegDesc.{RegDesc}
use Rattle.target_base.specs.declared.types.Target.{Target}
use Rattle.target_base.specs.declared.types.Unit.{Unit as UnitNumber}
use Rattle.target_base.specs.Numbers.{unit_number}
use Rattle.target_base.specs.Registers.{is_reserved_unit, units_of}
use Rattle.target_base.specs.Rules.{is_reg_desc}
use Rattle.target_base.specs.Storage.{same_numbers, units_in}
use Rattle.target_base.proofs.Sound.{regs_sound}
use Rattle.target_base.proofs.Tests.{first_of_both, second_of_both}
use Rattle.meaning.specs.declared.types.Lane.TheVariants.{UnitLane}
use Rattle.mir_func.specs.declared.func.Block.{Block}
use Rattle.mir_func.specs.Value.{Function}
use Rattle.mir_meaning.specs.Points.{LiveAt, Start}
use Rattle.mir_meaning.specs.Registers.{has_number, numbers}
use Rattle.mir_meaning.specs.declared.Form.TheVariants as forms
use Rattle.mir_meaning.specs.Valid.{LiveInto, V13, V14, cover, listing_fits}
use Rattle.instr_effects.specs.Numbered.{number_in, reserved_units}
use Rattle.instr_effects.specs.Numbers.{unit_number_in}
use Rattle.instr_effects.specs.declared.owner.Owner.TheVariants as owners
use Rattle.live_lanes.specs.declared.live.LiveFunc.{LiveFunc}
use Rattle.live_lanes.specs.Doing.{IsComputed}
use Rattle.live_laws.proofs.Effects.Blocks.{slice-member}
use Rattle.live_laws.proofs.Effects.Lists.{all-of}
use Rattle.live_laws.proofs.Touch.Effects.{numbers-long}
use Rattle.join_laws.proofs.Operands.{length-map}
use Rattle.rewriter.specs.LiveUnits.{is_live_unit, some_enters}
use Rattle.rewriter.specs.Laws.{HoldsLive, KeepsLiveRules, itself, lane}
use Rattle.rewriter.specs.Physical.{Assignment, physical_form}
use Rattle.rewriter.proofs.Starts.{starts-law}
use Rattle.rewriter.proofs.Units.{units-law}
use Rattle.valid_laws.specs.Rules.{FoundUnitsTell, PhysicalLiveins, StandsClear, TellsUnits}
use Rattle.valid_laws.proofs.Forms.{IsForm, form-at}
use Rattle.valid_laws.proofs.LiveUnits.{physical-live-units}

own-numbers : (ns : List ℕ) → same_numbers ns ns ≡ true
own-numbers [] = refl
own-numbers (n ∷ ns) = λ k. eq-eqb n n refl k && own-numbers ns k

module _ (t : Target) (f : Function) (rs : Assignment) (slots : List (ℕ × ClassId)) (live : ℕ → ℕ → Bool) (stand : StandsClear t f rs) where
  abbrev g : Function
  g = physical_form t rs slots live f

  -- the first block lists as it did

  same-live : V14 t forms.Source f → (b : Block) → slice_get f.blocks 0 ≡ Some b → (u : ℕ) → LiveAt t g (Start b.number) (UnitLane u) ↔ LiveAt t f (Start b.number) (UnitLane u)
  same-live starts b e u = ((λ h. to ((physical-live-units t f rs slots live stand b.number u).0 h)), (λ h. (physical-live-units t f rs slots live stand b.number u).1 (itself h)))
    where
      to : HoldsLive t f rs b.number u → LiveAt t f (Start b.number) (UnitLane u)
      to (itself h) = h
      to (lane v k r i x h) = absurd (starts b e v k h)

  listing : (test : ℕ → Bool) (b c : Block) → c.liveins ≡ b.liveins → listing_fits t 0 c test ≡ listing_fits t 0 b test
  listing test b c e =
      ap (λ (ls : List Reg). list_all (λ u. not (test u) || has_number (map (λ (u : UnitNumber). u.0) (flat_map (units_of t) ls)) u) (numbers 0 (length t.units))
      && not (list_any (is_reserved_unit t) (map (λ (u : UnitNumber). u.0) (flat_map (units_of t) ls)))
      && (nat_eq 0 0 || nat_eq t.version 2 || nat_eq (length ls) 0)) e

  first-block : V14 t forms.Source f → (b c : Block) → slice_get f.blocks 0 ≡ Some b → V13 t forms.Source f 0 b → IsForm t rs live 0 b c → V13 t forms.Allocated g 0 c
  first-block starts b c e was form =
      let number = form.follows.number in
      let tests : LiveInto t g b.number was.0 = λ u. let z = same-live starts b e u in ((λ h. z.1 ((was.1 u).0 h)), (λ h. (was.1 u).1 (z.0 h))) in
      (was.0, subst (λ n. LiveInto t g n was.0) (sym number) tests, listing was.0 b c form.liveins ∙ was.2)

  -- each other one lists the cover of its live units

  later-block : TellsUnits t f rs live → (k : ℕ) (b c : Block) → slice_get f.blocks (suc k) ≡ Some b → IsForm t rs live (suc k) b c → V13 t forms.Allocated g (suc k) c
  later-block tells k b c e form =
      let tests : LiveInto t g b.number (live (suc k)) = λ u.
      let z = physical-live-units t f rs slots live stand b.number u in
      let y = tells (suc k) b e u in
      ((λ h. z.1 (y.0 h)), (λ h. y.1 (z.0 h))) in (
        live (suc k),
        subst (λ n. LiveInto t g n (live (suc k))) (sym form.follows.number) tests,
        ap (λ (ls : List Reg). same_numbers (map (λ (r : Reg). r.0) ls) (map (λ (r : Reg). r.0) (cover t (live (suc k))))) form.liveins ∙ own-numbers (map (λ (r : Reg). r.0) (cover t (live (suc k)))),
      )

  pub liveins : V14 t forms.Source f → ((b : Block) → slice_get f.blocks 0 ≡ Some b → V13 t forms.Source f 0 b) → TellsUnits t f rs live → (k : ℕ) (c : Block) → slice_get g.blocks k ≡ Some c → V13 t forms.Allocated g k c
  liveins starts entry tells zero c e = let z = form-at t rs slots live f 0 c e in first-block starts z.0 c z.1 (entry z.0 z.1) z.2
  liveins starts entry tells (suc k) c e = let z = form-at t rs slots live f (suc k) c e in later-block tells k z.0 c z.1 z.2

pub physical-liveins : PhysicalLiveins
physical-liveins t f rs slots live stand start tells = liveins t f rs slots live stand start.starts start.entry tells

-- units that are found live

module _ (t : Target) where
  register-units : (r : Reg) (k : ℕ) (u : UnitNumber) → slice_get (units_of t r) k ≡ Some u → u.0 < length t.units
  register-units r k u e = go (slice_get t.regs r.0) refl e
    where
      go : (o : Option RegDesc) → slice_get t.regs r.0 ≡ o → slice_get (units_in o) k ≡ Some u → u.0 < length t.units
      go None h e = absurd (cc)
      go (Some d) h e =
          let all = second_of_both _ _ (first_of_both _ _ (regs_sound t.name t.version t.units t.regs t.reserved t.indexes t.classes t.masks t.opcodes t.sound)) in
          let rule : is_reg_desc t.version t.units d ≡ true = all-of (is_reg_desc t.version t.units) d t.regs (slice-member t.regs r.0 d h) all in
          let within = second_of_both _ _ (first_of_both _ _ (first_of_both _ _ rule)) in
          ltb-true u.0 (length t.units) (all-of (λ (w : UnitNumber). nat_lt w.0 (length t.units)) u d.units (slice-member d.units k u e) within)

numbered-unit : (reserved : List Bool) (u : ℕ) (n : ℕ) → unit_number_in reserved u ≡ Some n → u < length reserved
numbered-unit reserved u n e = go (slice_get reserved u) refl e
  where
    go : (o : Option Bool) → slice_get reserved u ≡ o → elim o as (λ o. Option ℕ) [ None ↦ None | Some b ↦ cond b None (Some u) ] ≡ Some n → u < length reserved
    go None h e = absurd (cc)
    go (Some b) h e = slice_get_within reserved u b h

module _ (live : LiveFunc) (rs : Assignment) (computed : IsComputed live.target live.func live.table) (keeps : KeepsLiveRules live.target live.func) (few : length rs ≤ 4294967296) where
  abbrev t : Target
  t = live.target

  units-long : length (reserved_units t) ≡ length t.units
  units-long = length-map (is_reserved_unit t) (numbers 0 (length t.units)) ∙ numbers-long 0 (length t.units)

  entered-unit : (u k : ℕ) → some_enters live.table (number_in live.table.lanes (owners.Unit u)) k ≡ true → u < length t.units
  entered-unit u k e = go (number_in live.table.lanes (owners.Unit u)) refl e
    where
      go : (q : Option ℕ) → number_in live.table.lanes (owners.Unit u) ≡ q → some_enters live.table q k ≡ true → u < length t.units
      go None h e = absurd (cc)
      go (Some n) h e = subst (λ m. u < m) (ap length computed.numbers.reserved ∙ units-long) (numbered-unit live.table.lanes.reserved.items u n h)

  held-within : (k : ℕ) (b : Block) → slice_get live.func.blocks k ≡ Some b → (u : ℕ) → HoldsLive t live.func rs b.number u → u < length t.units
  held-within k b e u (itself h) = entered-unit u k ((starts-law t live.func live.table computed keeps (UnitLane u) refl k b e).1 h)
  held-within k b e u (lane v j r i x h) = register-units t r j (unit_number u) x

  found-within : (k u : ℕ) → is_live_unit live rs k u ≡ true → u < length t.units
  found-within k u e = ltb-true u (length t.units) (first_of_both (nat_lt u (length t.units)) _ (second_of_both (nat_lt k (length live.func.blocks)) _ e))

  pub tells : TellsUnits t live.func rs (is_live_unit live rs)
  tells k b e u = ((λ h. (units-law live rs computed keeps few k b e u (found-within k u h)).0 h), (λ h. (units-law live rs computed keeps few k b e u (held-within k b e u h)).1 h))

pub found-units-tell : FoundUnitsTell
found-units-tell live rs computed keeps few = tells live rs computed keeps few
