use Rattle.std.proofs.Common.{ℕ, Bool, false, [], ◌∷◌, map, get_or, arith}
use Rattle.std.specs.Prelude.{flat_map}
use Rattle.std.proofs.lemmas.List.{get_or_default}
use Rattle.std.proofs.lemmas.List.Concat.{flat_map_single}
use Rattle.spiller.proofs.NumbersTaken.{adds-more, adds-all, adds-one, adds-same}
use Rattle.spiller.proofs.slot_map.add_declared.Goals as goal

pub frames-preserved : goal.frames-preserved
frames-preserved c =
    let xs = c.args.frames.now in
    let k = c.frames.frame-index in
    let x = get_or xs k (0, false) in
    adds-more (λ (p : ℕ × Bool). p.0 ∷ []) xs k x c.args.taken.now.keys c.frames.taken.keys c.add_number.new.taken.keys c.frames-test.true (get_or_default xs k (0, false) x c.frames-test.true) c.frames.invariant
    (adds-one c.frames.taken.keys c.add_number.new.taken.keys x.0 c.in_ok-add_number.ensures)

pub returns : goal.returns
returns c =
    let xs = c.args.frames.now in
    let f = λ (p : ℕ × Bool). p.0 ∷ [] in
    adds-same (flat_map f xs) (map (λ (p : ℕ × Bool). p.0) xs) c.args.taken.now.keys c.frames.taken.keys (flat_map_single (λ (p : ℕ × Bool). p.0) xs)
    (adds-all f xs c.frames.frame-index c.args.taken.now.keys c.frames.taken.keys (omega arith) c.frames.invariant)
