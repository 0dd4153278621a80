-- Joins keep lowered form, and `undef` uses that are physical or tied.
use Rattle.std.proofs.Common.{◌≡◌, ℕ, true, not, List, filter, sym, subst}
use Rattle.std.specs.List.{list_all}
use Rattle.target_base.specs.declared.types.Target.{Target}
use Rattle.meaning.specs.Live.{Among as Member}
use Rattle.mir_func.specs.declared.func.Instr.{Instr}
use Rattle.mir_func.specs.declared.func.Block.{Block}
use Rattle.mir_func.specs.Value.{Function}
use Rattle.instr_effects.proofs.Members.{filter-of, map-of}
use Rattle.live_laws.proofs.Effects.Lists.{all-of}
use Rattle.lowering_laws.specs.Form.{is_lowered}
use Rattle.lowering_laws.proofs.Formed.{all-by}
use Rattle.live_edits.specs.declared.fold.Join.{Join}
use Rattle.live_edits.specs.Folded.{becomes_identity, folded, folded_block, index_within, joined_instr}
use Rattle.join_laws.specs.Joined.{Tried, done, joins, stays}
use Rattle.spill_laws.specs.Laws.{AreLowered}
use Rattle.spill_laws.specs.Named.{HasFixedUndefs}
use Rattle.spill_laws.proofs.Touched.{UndefsFixed}
use Rattle.run_laws.specs.Form.{JoinKeepsUndefs, JoinedKeepsUndefs}
use Rattle.run_laws.proofs.Renamed.{form-renamed, undefs-renamed}

pub in-lowered-form : (t : Target) (f : Function) → AreLowered t f → (b : Block) (i : Instr) → Member b f.blocks → Member i b.instrs → is_lowered t i ≡ true
in-lowered-form t f formed b i mb mi = all-of (is_lowered t) i b.instrs mi (all-of (λ (d : Block). list_all (is_lowered t) d.instrs) b f.blocks mb formed)

pub all-in-form : (t : Target) (f : Function) → ((b : Block) (i : Instr) → Member b f.blocks → Member i b.instrs → is_lowered t i ≡ true) → AreLowered t f
all-in-form t f h = all-by (λ (b : Block). list_all (is_lowered t) b.instrs) f.blocks (λ b mb. all-by (is_lowered t) b.instrs (λ i mi. h b i mb mi))

module _ (t : Target) (f : Function) (j : Join) where
  -- what holds of the instructions with the range that stays holds of all behind the join
  each-joined : (P : Instr → Type 0) → ((b : Block) (i : Instr) → Member b f.blocks → Member i b.instrs → P (joined_instr t j i)) → (c : Block) (x : Instr) → Member c (folded t j f).blocks → Member x c.instrs → P x
  each-joined P h c x mc mx =
      let b = map-of (folded_block t f j) c f.blocks mc in
      let i = map-of (joined_instr t j) x (filter (λ (y : Instr). not (becomes_identity t f j y)) b.0.instrs) (subst (λ (d : Block). Member x d.instrs) b.2 mx) in
      subst P (sym i.2) (h b.0 i.0 b.1 (filter-of (λ (y : Instr). not (becomes_identity t f j y)) i.0 b.0.instrs i.1).0)

  join-formed : AreLowered t f → AreLowered t (folded t j f)
  join-formed formed = all-in-form t (folded t j f) (each-joined (λ x. is_lowered t x ≡ true) (λ b i mb mi. form-renamed j.gone j.keep (index_within t j.index) t i (in-lowered-form t f formed b i mb mi)))

  join-fixed : HasFixedUndefs t f → HasFixedUndefs t (folded t j f)
  join-fixed fixed = each-joined (UndefsFixed t) (λ b i mb mi. undefs-renamed j.gone j.keep (index_within t j.index) t i (fixed b i mb mi))

pub join_keeps_undefs : JoinKeepsUndefs
join_keeps_undefs t f j formed fixed = (join-formed t f j formed, join-fixed t f j fixed)

tried : {t : Target} {ids : List ℕ} {f g : Function} {js : List Join} → Tried t ids f js g → AreLowered t f → HasFixedUndefs t f → AreLowered t g × HasFixedUndefs t g
tried done formed fixed = (formed, fixed)
tried {t = t} (joins {f = f} {j = j} h on) formed fixed = let w = join_keeps_undefs t f j formed fixed in tried on w.0 w.1
tried (stays h on) formed fixed = tried on formed fixed

pub joined_keeps_undefs : JoinedKeepsUndefs
joined_keeps_undefs t freqs f g js formed fixed z = tried z formed fixed
