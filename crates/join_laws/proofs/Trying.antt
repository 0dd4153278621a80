-- A function after all joins, one after the other.
use Rattle.std.proofs.Common.{ℕ, List}
use Rattle.target_base.specs.declared.types.Target.{Target}
use Rattle.laws.proofs.Quiet.{law_of_folds}
use Rattle.laws.proofs.Refines.{refines_refl, refines_trans}
use Rattle.mir_func.specs.Value.{Function}
use Rattle.mir_meaning.specs.Codes.{meaning_of, refines}
use Rattle.mir_meaning.specs.Registers.{is_reserved}
use Rattle.lowering_laws.specs.Shapes.{IsLowered}
use Rattle.live_edits.specs.declared.fold.Join.{Join}
use Rattle.live_edits.specs.Folded.{folded, image}
use Rattle.join_laws.specs.Joined.{Tried, done, joins, stays}
use Rattle.join_laws.specs.Laws.{HasPlainUndefs, JoinKeepsLowered, JoinRefines, JoinedRefines}
use Rattle.join_laws.proofs.Asked.{asked}
use Rattle.join_laws.proofs.Folding.{folds}
use Rattle.join_laws.proofs.Kept.{join-lowered, join-plain}

pub join_refines : JoinRefines
join_refines t f id j low plain join =
    (law_of_folds (is_reserved t) (image t j) (meaning_of t f) (meaning_of t (folded t j f)) (folds t f j (asked t f id j low join.0) low plain join.1)).0

pub join_keeps_lowered : JoinKeepsLowered
join_keeps_lowered t f id j low plain join =
    let a = asked t f id j low join.0 in
    (join-lowered t f j a low plain join.1, join-plain t f j a low plain join.1)

tried : (t : Target) {ids : List ℕ} {f : Function} {js : List Join} {g : Function} → Tried t ids f js g → IsLowered t f → HasPlainUndefs t f → refines t f g × IsLowered t g × HasPlainUndefs t g
tried t {f = f} done low plain = (refines_refl (meaning_of t f), low, plain)
tried t {g = g} (joins {f = f} {id = id} {j = j} join on) low plain =
    let kept = join_keeps_lowered t f id j low plain join in
    let z = tried t on kept.0 kept.1 in
    (refines_trans (meaning_of t f) (meaning_of t (folded t j f)) (meaning_of t g) (join_refines t f id j low plain join) z.0, z.1, z.2)
tried t (stays fails on) low plain = tried t on low plain

pub joined_refines : JoinedRefines
joined_refines t freqs f g js low plain joined = tried t joined low plain
