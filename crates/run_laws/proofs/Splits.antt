-- Splits keep lowered form, and `undef` uses that are physical or tied.
use Rattle.std.proofs.Common.{◌≡◌, inl, ℕ, Bool, true, false, None, List, [], ◌∷◌, refl, sym, subst}
use Rattle.target_base.specs.declared.types.Target.{Target}
use Rattle.meaning.specs.Live.{Among as Member}
use Rattle.mir_func.specs.declared.func.Loc.TheVariants.{Virtual}
use Rattle.mir_func.specs.declared.func.RegOp.{RegOp}
use Rattle.mir_func.specs.declared.func.Instr.{Instr}
use Rattle.mir_func.specs.declared.func.Block.{Block}
use Rattle.mir_func.specs.Value.{Function}
use Rattle.mir_meaning.specs.Points.{Point}
use Rattle.mir_meaning.specs.Renaming.{renamed_instr}
use Rattle.instr_effects.proofs.Members.{member-elim, member-none}
use Rattle.live_lanes.specs.declared.ask.labels.Mark.{Mark}
use Rattle.lowering_laws.specs.Form.{is_lowered}
use Rattle.lowering_laws.proofs.Formed.{copy-formed}
use Rattle.split_kit.specs.Split.{as_part, blocks_split, part, split_by, whole}
use Rattle.spill_laws.specs.Laws.{AreLowered}
use Rattle.spill_laws.specs.Named.{HasFixedUndefs}
use Rattle.spill_laws.proofs.FixedUndefs.{Clear, clear-fixed}
use Rattle.spill_laws.proofs.Touched.{UndefsFixed}
use Rattle.split_laws.proofs.Ends.{copy-effect}
use Rattle.split_laws.proofs.Instrs.{block-all, copy, split-of}
use Rattle.run_laws.specs.Form.{SplitKeepsUndefs}
use Rattle.run_laws.proofs.Joins.{all-in-form, in-lowered-form}
use Rattle.run_laws.proofs.Renamed.{form-renamed, undefs-renamed}

-- a register as a whole
side : Bool → ℕ → RegOp
side def v = record { loc = Virtual v; index = None; def = def; implicit = false; undef = false; early = false; renamable = false; tie = None }

module _ (t : Target) (f : Function) (v : ℕ) (ms : List Mark) (live : Point → Bool) where
  abbrev g : Function
  g = split_by live f v ms

  blocks : g.blocks ≡ blocks_split live f v ms f.next_id f.blocks
  unfolding split_by
  blocks = refl

  copy-form : (id from to : ℕ) → is_lowered t (copy live f v ms id from to) ≡ true
  unfolding side
  copy-form id from to = copy-formed t (copy live f v ms id from to) (side true (part f to)) (side false (part f from)) (copy-effect t id (whole true (part f to) ∷ whole false (part f from) ∷ [])) refl refl refl

  copy-fixed : (id from to : ℕ) → UndefsFixed t (copy live f v ms id from to)
  unfolding side
  copy-fixed id from to = clear-fixed t (copy live f v ms id from to) (λ o m. member-elim o (side true (part f to)) (side false (part f from) ∷ []) (λ e. subst Clear (sym e) (inl refl)) (λ k. member-elim o (side false (part f from)) [] (λ e. subst Clear (sym e) (inl refl)) (λ j. absurd (member-none o j)) k) m)

  -- what holds of copies and of instructions with parts holds of all behind the split
  each-split : (P : Instr → Type 0) → ((id from to : ℕ) → P (copy live f v ms id from to)) → ((b : Block) (i : Instr) → Member b f.blocks → Member i b.instrs → (label : ℕ) → P (renamed_instr (as_part f v label) i))
      → (c : Block) (x : Instr) → Member c g.blocks → Member x c.instrs → P x
  each-split P copies parts c x mc mx =
      let z = split-of live f v ms f.next_id f.blocks c (subst (Member c) blocks mc) in
      block-all live f v ms P (λ id from to p e h k. copies id from to) z.1 (λ i mi label h. parts z.1 i z.2 mi label) z.0 x (subst (λ (d : Block). Member x d.instrs) z.3 mx)

  split-formed : AreLowered t f → AreLowered t g
  split-formed formed = all-in-form t g (each-split (λ x. is_lowered t x ≡ true) copy-form (λ b i mb mi label. form-renamed v (part f label) (λ x. x) t i (in-lowered-form t f formed b i mb mi)))

  split-fixed : HasFixedUndefs t f → HasFixedUndefs t g
  split-fixed fixed = each-split (UndefsFixed t) copy-fixed (λ b i mb mi label. undefs-renamed v (part f label) (λ x. x) t i (fixed b i mb mi))

pub split_keeps_undefs : SplitKeepsUndefs
split_keeps_undefs t f g v ms formed fixed s = subst (λ h. AreLowered t h × HasFixedUndefs t h) (sym s.2) (split-formed t f v ms s.0 formed, split-fixed t f v ms s.0 fixed)
