-- Splits keep what is live where a function begins: no range, and the units that the first block lists.
use Rattle.std.proofs.Common.{◌≡◌, ◌<◌, ◌≤◌, ◌+◌, ◌-◌, ◌↔◌, ℕ, Bool, true, false, cond, List, [], ◌∷◌, Some, length, replicate, refl, sym, ap, ◌∙◌, subst, arith, ltb-true, eqb-true}
use Rattle.std.specs.Prelude.{nat_eq, nat_lt, None, slice_get}
use Rattle.std.proofs.lemmas.Bool.{eqb-false, ltb-false, ne_eqb}
use Rattle.std.proofs.lemmas.List.{length-append, length-replicate}
use Rattle.target_base.specs.declared.types.Target.{Target}
use Rattle.meaning.specs.Live.{Among as Member}
use Rattle.meaning.specs.declared.types.Lane.TheVariants.{UnitLane, VirtualLane}
use Rattle.mir_func.specs.declared.func.Loc.{Loc}
use Rattle.mir_func.specs.declared.func.Loc.TheVariants.{Fixed, Virtual}
use Rattle.mir_func.specs.declared.func.RegOp.{RegOp}
use Rattle.mir_func.specs.declared.func.Instr.{Instr}
use Rattle.mir_func.specs.declared.func.Block.{Block}
use Rattle.mir_func.specs.Value.{Function}
use Rattle.mir_func.specs.Binding.{class_of, registers}
use Rattle.mir_meaning.specs.Points.{LiveAt, Point, Start, Tests, is_range}
use Rattle.mir_meaning.specs.Renaming.{renamed_instr}
use Rattle.mir_meaning.specs.declared.Form.TheVariants as forms
use Rattle.mir_meaning.specs.Valid.{LiveInto, V13}
use Rattle.instr_effects.proofs.Members.{member-elim, member-none}
use Rattle.live_lanes.specs.declared.ask.labels.Mark.{Mark}
use Rattle.lowering_laws.specs.Shapes.{IsLowered}
use Rattle.split_kit.specs.Split.{RangeLive, Split, as_part, greatest_label, part, split_by}
use Rattle.split_laws.specs.Laws.{LabelsAgree}
use Rattle.split_laws.proofs.Instrs.{At, copy, split-at}
use Rattle.split_laws.proofs.Kept.{split_keeps_lowered}
use Rattle.split_laws.proofs.Others.{others_stay, range_shared}
use Rattle.split_laws.proofs.Splitting.{suits}
use Rattle.valid_laws.specs.Rules.{HasStart}
use Rattle.ready_laws.specs.Starts.{BeginsWithin, ListsStart, SplitKeepsListed}
use Rattle.ready_laws.specs.Steps.{SplitKeepsStart}
use Rattle.ready_laws.proofs.Starts.{within-keeps-listed}
use Rattle.ready_laws.proofs.SplitInstrs.{each-split, register-was}
use Rattle.ready_laws.proofs.Unnamed.{IsUnnamed, unnamed-dead}

-- a register as a whole
side : Bool → ℕ → RegOp
side def v = record { loc = Virtual v; index = None; def = def; implicit = false; undef = false; early = false; renamable = false; tie = None }

same-virtual : (a b : ℕ) → Virtual a ≡ Virtual b → a ≡ b
same-virtual a b e = cc

module _ (t : Target) (f : Function) (v : ℕ) (ms : List Mark) (live : Point → Bool) where
  abbrev g : Function
  g = split_by live f v ms

  abbrev n : ℕ
  n = length f.classes

  abbrev count : ℕ
  count = greatest_label ms + 1

  -- no instruction names the range behind the split, where it is one of the function's

  apart : v < n → (label : ℕ) → nat_eq v (part f label) ≡ false
  apart h label = ne_eqb v (part f label) (λ e. omega arith)

  abbrev Without : Instr → Type 0
  Without x = (o : RegOp) → Member o (registers x.operands) → is_range v o.loc ≡ false

  copy-without : v < n → (id from to : ℕ) → Without (copy live f v ms id from to)
  unfolding side
  copy-without h id from to o m =
      member-elim o (side true (part f to)) (side false (part f from) ∷ []) (λ e. ap (λ (p : RegOp). is_range v p.loc) e ∙ apart h to)
      (λ k. member-elim o (side false (part f from)) [] (λ e. ap (λ (p : RegOp). is_range v p.loc) e ∙ apart h from) (λ j. absurd (member-none o j)) k) m

  part-without : v < n → (i : Instr) (label : ℕ) → Without (renamed_instr (as_part f v label) i)
  part-without h i label o m = let z = register-was (as_part f v label) i.operands o m in ap (λ (p : RegOp). is_range v p.loc) z.2 ∙ go z.0 (is_range v z.0.loc) refl
    where
      go : (p : RegOp) (b : Bool) → is_range v p.loc ≡ b → is_range v (cond b (record p { loc = Virtual (part f label) }) p).loc ≡ false
      go p true e = apart h label
      go p false e = e

  unnamed : v < n → IsUnnamed v g
  unnamed h b i o mb mi m = each-split f v ms live Without (copy-without h) (λ c j mc mj label. part-without h j label) b i mb mi o m

  long : length g.classes ≡ n + count
  unfolding split_by
  long = length-append f.classes (replicate count (class_of f v)) ∙ ap (λ k. n + k) (length-replicate count (class_of f v))

  module _ (tests : Tests (RangeLive t f v) live) (low : IsLowered t f) (meet : LabelsAgree t f v ms) where
    s : Split t f v ms g
    s = (live, tests, refl)

    after : IsLowered t g
    after = split_keeps_lowered t f g v ms low meet s

    -- a register that the function doesn't have
    beyond : (w : ℕ) → n + count ≤ w → IsUnnamed w g
    beyond w h b i o mb mi m = go o.loc refl
      where
        go : (l : Loc) → o.loc ≡ l → is_range w l ≡ false
        go (Virtual x) e = ne_eqb w x (λ z. let k : x < length g.classes = ((suits t g after).named b i o mb mi m).range x e in omega (arith, k, long, z, h))
        go (Fixed r) e = refl

    units-same : (b u : ℕ) → LiveAt t g (Start b) (UnitLane u) ↔ LiveAt t f (Start b) (UnitLane u)
    units-same b u = let z = others_stay t f g v ms low meet s (Start b) tt (UnitLane u) tt in (z.live.1, z.live.0)

    -- where a range is live one was
    range-was : (b w k : ℕ) → LiveAt t g (Start b) (VirtualLane w k) → (x : ℕ) × LiveAt t f (Start b) (VirtualLane x k)
    range-was b w k h = go (nat_lt w n) refl (nat_eq w v) refl (nat_lt w (n + count)) refl
      where
        go : (x : Bool) → nat_lt w n ≡ x → (y : Bool) → nat_eq w v ≡ y → (z : Bool) → nat_lt w (n + count) ≡ z → (x : ℕ) × LiveAt t f (Start b) (VirtualLane x k)
        go true p true q z r =
            let same : w ≡ v = eqb-true w v q in
            absurd (unnamed-dead v t g after (unnamed (subst (λ y. y < n) same (ltb-true w n p))) b k (subst (λ y. LiveAt t g (Start b) (VirtualLane y k)) same h))
        go true p false q z r =
            (w, (others_stay t f g v ms low meet s (Start b) tt (VirtualLane w k) (ltb-true w n p, eqb-false w v q)).live.1 h)
        go false p y q true r =
            let from : n ≤ w = ltb-false w n p in
            let below : w < n + count = ltb-true w (n + count) r in
            let to = w - n in
            let is : w ≡ part f to = omega (arith, from) in
            (v, ((range_shared t f g v ms low meet s (Start b) tt).only to k (omega (arith, from, below)) (subst (λ y. LiveAt t g (Start b) (VirtualLane y k)) is h)).0)
        go false p y q false r = absurd (unnamed-dead w t g after (beyond w (ltb-false w (n + count) r)) b k h)

    block-was : (c : Block) → slice_get g.blocks 0 ≡ Some c → At live f v ms f.blocks f.next_id 0 c
    unfolding split_by
    block-was c e = split-at live f v ms f.blocks f.next_id 0 c e

    start-kept : HasStart t f → HasStart t g
    start-kept start = record {
      starts = λ c e w k h.
          let z = block-was c e in
          let x = range-was c.number w k h in
          start.starts z.block z.there x.0 k (subst (λ y. LiveAt t f (Start y) (VirtualLane x.0 k)) (ap (λ (d : Block). d.number) z.split) x.1);
      entry = λ c e.
          let z = block-was c e in
          let was = start.entry z.block z.there in
          let tests : LiveInto t g z.block.number was.0 = λ u. let y = units-same z.block.number u in ((λ h. y.1 ((was.1 u).0 h)), (λ h. (was.1 u).1 (y.0 h))) in
          subst (V13 t forms.Source g 0) (sym z.split) (was.0, tests, was.2);
    }

    begins : (c : Block) → slice_get g.blocks 0 ≡ Some c → (b : Block) × BeginsWithin t f g b c
    begins c e =
        let z = block-was c e in
        let n : c.number ≡ z.block.number = ap (λ (d : Block). d.number) z.split in (
          z.block,
          record {
            there = z.there;
            number = n;
            liveins = ap (λ (d : Block). d.liveins) z.split;
            units = λ u h. (units-same z.block.number u).0 (subst (λ y. LiveAt t g (Start y) (UnitLane u)) n h);
            ranges = λ w k h. let x = range-was z.block.number w k (subst (λ y. LiveAt t g (Start y) (VirtualLane w k)) n h) in (x.0, k, x.1);
          },
        )

    listed-kept : ListsStart t f → ListsStart t g
    listed-kept l = within-keeps-listed t f g begins l

pub split-keeps-listed : SplitKeepsListed
split-keeps-listed t f g v ms low meet s l = subst (ListsStart t) (sym s.2) (listed-kept t f v ms s.0 s.1 low meet l)

pub split-keeps-start : SplitKeepsStart
split-keeps-start t f g v ms low meet s start = subst (HasStart t) (sym s.2) (start-kept t f v ms s.0 s.1 low meet start)
