-- No label that holds anywhere is above the greatest.
use Rattle.std.proofs.Common.{◌≤◌, ◌<◌, ◌+◌, ◌&&◌, ℕ, Bool, true, false, cond, List, [], ◌∷◌, Option, filter, arith}
use Rattle.std.specs.Prelude.{nat_eq}
use Rattle.std.proofs.Math.Nat.{le-max_left, le-max_right}
use Rattle.live_lanes.specs.declared.ask.labels.Mark.{Mark}
use Rattle.split_kit.specs.Split.{greatest_label, is_border, is_gap, label_behind, last_label, start_label}

last-within : (most now : ℕ) (test : Mark → Bool) (ms : List Mark) → now ≤ most → greatest_label ms ≤ most → last_label now (filter test ms) ≤ most
last-within most now test [] h g = h
last-within most now test (m ∷ ms) h g =
    let one : m.label ≤ most = omega (arith, le-max_left m.label (greatest_label ms)) in
    let rest : greatest_label ms ≤ most = omega (arith, le-max_right m.label (greatest_label ms)) in
    go (test m) (last-within most now test ms h rest) (last-within most m.label test ms one rest)
  where
    go : (b : Bool) → last_label now (filter test ms) ≤ most → last_label m.label (filter test ms) ≤ most → last_label now (cond b (m ∷ filter test ms) (filter test ms)) ≤ most
    go true x y = y
    go false x y = x

pub start-fits : (ms : List Mark) (n : ℕ) → start_label ms n < greatest_label ms + 1
start-fits ms n =
    let h : start_label ms n ≤ greatest_label ms = last-within (greatest_label ms) 0 (λ m. nat_eq m.block n && is_border m.spot) ms (omega arith) (omega arith) in
    omega arith

pub behind-fits : (ms : List Mark) (n : ℕ) (before : Option ℕ) (now : ℕ) → now < greatest_label ms + 1 → label_behind ms n before now < greatest_label ms + 1
behind-fits ms n before now h =
    let g : label_behind ms n before now ≤ greatest_label ms = last-within (greatest_label ms) now (λ m. nat_eq m.block n && is_gap before m.spot) ms (omega arith) (omega arith) in
    omega arith
