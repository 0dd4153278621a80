-- The instructions of a block that is split: those that it had, and copies, each first or behind one that it had.
use Rattle.std.proofs.Common.{◌≡◌, ◌<◌, ◌+◌, not, ◌&&◌, ℕ, Bool, true, false, cond, List, [], ◌∷◌, ◌++◌, Some, None, length, refl, sym, ap, ◌∙◌, subst}
use Rattle.std.specs.Prelude.{nat_eq}
use Rattle.meaning.specs.Live.{Among as Member, here as first, there as later}
use Rattle.mir_func.specs.declared.func.Instr.{Instr}
use Rattle.mir_func.specs.declared.func.Block.{Block}
use Rattle.mir_func.specs.Value.{Function}
use Rattle.mir_meaning.specs.Points.{Entry, Point, Start}
use Rattle.mir_meaning.specs.Renaming.{renamed_instr}
use Rattle.live_lanes.specs.declared.ask.labels.Mark.{Mark}
use Rattle.split_kit.specs.Split.{as_part, block_split, changed, greatest_label, instrs_split, label_behind, last_point, start_label}
use Rattle.split_laws.proofs.Instrs.{copy}
use Rattle.split_laws.proofs.Labels.{behind-fits, start-fits}

-- a place in a list is the first, or one behind it
data Cut (front : List Instr) (x : Instr) (back : List Instr) (y : Instr) (ys : List Instr) : Type 0 where
  at-first : front ≡ [] → x ≡ y → back ≡ ys → Cut front x back y ys
  behind : (rest : List Instr) → front ≡ y ∷ rest → rest ++ x ∷ back ≡ ys → Cut front x back y ys

cut : (front : List Instr) (x : Instr) (back : List Instr) (y : Instr) (ys : List Instr) → front ++ x ∷ back ≡ y ∷ ys → Cut front x back y ys
cut [] x back y ys e = at-first refl (cc) (cc)
cut (z ∷ front) x back y ys e = let one : z ≡ y = cc in behind front (ap (λ w. w ∷ front) one) (cc)

none-here : (front : List Instr) (x : Instr) (back : List Instr) → front ++ x ∷ back ≡ [] → ⊥
none-here [] x back e = cc
none-here (z ∷ front) x back e = cc

module _ (live : Point → Bool) (f : Function) (v : ℕ) (ms : List Mark) where
  abbrev count : ℕ
  count = greatest_label ms + 1

  -- a copy between parts
  pub record IsCopy (x : Instr) : Type 0 where
    pub id : ℕ
    pub from : ℕ
    pub to : ℕ
    pub is : x ≡ copy live f v ms id from to
    pub from_fits : from < count
    pub to_fits : to < count

  -- behind these instructions stands one that the function had, or a copy: first in its block, or behind one that the function had
  pub data Stands (front : List Instr) (x : Instr) : Type 0 where
    had : x.id < f.next_id → Stands front x
    leads : IsCopy x → front ≡ [] → Stands front x
    follows : IsCopy x → (start : List Instr) (y : Instr) → front ≡ start ++ y ∷ [] → y.id < f.next_id → Stands front x

  -- behind more instructions, the last of which the function had
  more : (before : List Instr) (y : Instr) → y.id < f.next_id → (front : List Instr) (x : Instr) → Stands front x → (all : List Instr) → all ≡ before ++ (y ∷ front) → Stands all x
  more before y h front x (had k) all e = had k
  more before y h front x (leads c g) all e = follows c before y (e ∙ ap (λ xs. before ++ (y ∷ xs)) g) h
  more before y h front x (follows c start z g k) all e = follows c (before ++ (y ∷ start)) z (e ∙ (ap (λ xs. before ++ (y ∷ xs)) g ∙ shift before y start z)) k
    where
      shift : (before : List Instr) (y : Instr) (start : List Instr) (z : Instr) → before ++ (y ∷ (start ++ z ∷ [])) ≡ (before ++ (y ∷ start)) ++ z ∷ []
      shift [] y start z = refl
      shift (w ∷ before) y start z = ap (λ xs. w ∷ xs) (shift before y start z)

  -- copies and then others
  past : (a : Bool) (id from to : ℕ) → from < count → to < count → (e : Bool) (y : Instr) → y.id < f.next_id → (ys : List Instr)
      → ((front : List Instr) (x : Instr) (back : List Instr) → front ++ x ∷ back ≡ ys → Stands front x)
      → (front : List Instr) (x : Instr) (back : List Instr) → front ++ x ∷ back ≡ cond (a && not e) (copy live f v ms id from to ∷ []) [] ++ y ∷ ys → Stands front x
  past a id from to h k e y old ys on front x back whole = go (a && not e) whole
    where
      one : (before front : List Instr) (x : Instr) (back : List Instr) → (all : List Instr) → all ≡ before ++ front → front ++ x ∷ back ≡ y ∷ ys → Stands all x
      one before front x back all q w = by (cut front x back y ys w)
        where
          by : Cut front x back y ys → Stands all x
          by (at-first i s j) = had (subst (λ (z : Instr). z.id < f.next_id) (sym s) old)
          by (behind rest i j) = more before y old rest x (on rest x back j) all (q ∙ ap (λ xs. before ++ xs) i)

      go : (c : Bool) → front ++ x ∷ back ≡ cond c (copy live f v ms id from to ∷ []) [] ++ y ∷ ys → Stands front x
      go false w = one [] front x back front refl w
      go true w = by (cut front x back (copy live f v ms id from to) (y ∷ ys) w)
        where
          by : Cut front x back (copy live f v ms id from to) (y ∷ ys) → Stands front x
          by (at-first i s j) = leads (record { id = id; from = from; to = to; is = s; from_fits = h; to_fits = k }) i
          by (behind rest i j) = one (copy live f v ms id from to ∷ []) rest x back front i j

  alone : (a : Bool) (id from to : ℕ) → from < count → to < count → (e : Bool) (front : List Instr) (x : Instr) (back : List Instr) → front ++ x ∷ back ≡ cond (a && not e) (copy live f v ms id from to ∷ []) [] → Stands front x
  alone a id from to h k e front x back whole = go (a && not e) whole
    where
      go : (c : Bool) → front ++ x ∷ back ≡ cond c (copy live f v ms id from to ∷ []) [] → Stands front x
      go false w = absurd (none-here front x back w)
      go true w = by (cut front x back (copy live f v ms id from to) [] w)
        where
          by : Cut front x back (copy live f v ms id from to) [] → Stands front x
          by (at-first i s j) = leads (record { id = id; from = from; to = to; is = s; from_fits = h; to_fits = k }) i
          by (behind rest i j) = absurd (none-here rest x back j)

  module _ (b : Block) where
    stands : (n now : ℕ) → now < count → (is : List Instr) → ((i : Instr) → Member i is → i.id < f.next_id) → (front : List Instr) (x : Instr) (back : List Instr) → front ++ x ∷ back ≡ instrs_split live f v ms n b now is → Stands front x
    stands n now h [] old front x back e =
        let to = label_behind ms b.number None now in
        alone (live (last_point (Start b.number) b.instrs)) n now to h (behind-fits ms b.number None now h) (nat_eq now to) front x back e
    stands n now h (i ∷ is) old front x back e =
        let to = label_behind ms b.number (Some i.id) now in
        let fits = behind-fits ms b.number (Some i.id) now h in
        let k = n + length (changed f n (live (Entry i.id)) now to) in
        past (live (Entry i.id)) n now to h fits (nat_eq now to) (renamed_instr (as_part f v to) i) (old i first) (instrs_split live f v ms k b to is)
        (stands k to fits is (λ j m. old j (later m))) front x back e

    pub block-stands : (n : ℕ) → ((i : Instr) → Member i b.instrs → i.id < f.next_id) → (front : List Instr) (x : Instr) (back : List Instr) → front ++ x ∷ back ≡ (block_split live f v ms n b).instrs → Stands front x
    block-stands n old front x back e = stands n (start_label ms b.number) (start-fits ms b.number) b.instrs old front x back e
