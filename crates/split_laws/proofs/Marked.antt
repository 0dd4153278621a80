-- Labels of a block that change at its start, at its first gap and before its terminators alone: which ones hold, and that they agree.
use Rattle.std.proofs.Common.{◌≡◌, ℕ, Bool, true, false, cond, ◌&&◌, List, [], ◌∷◌, ◌++◌, Option, Some, None, map, filter, flat_map, refl, sym, ap, ◌∙◌, subst, eqb-true, eq-eqb}
use Rattle.std.specs.Prelude.{nat_eq}
use Rattle.target_base.specs.declared.types.Target.{Target}
use Rattle.meaning.specs.Live.{Among as Member, here as first, there as later}
use Rattle.mir_func.specs.declared.func.Instr.{Instr}
use Rattle.mir_func.specs.declared.func.Block.{Block}
use Rattle.mir_func.specs.Value.{Function}
use Rattle.mir_func.specs.Binding.{does, is_terminator}
use Rattle.mir_meaning.specs.Rules.{block_numbers}
use Rattle.live_lanes.specs.declared.ask.labels.Mark.{Mark}
use Rattle.live_lanes.specs.declared.ask.labels.Spot.{Spot}
use Rattle.live_lanes.specs.declared.ask.labels.Spot.TheVariants as spots
use Rattle.instr_effects.proofs.Members.{either-elim, filter-of, flat-of, map-in, member-elim, member-none}
use Rattle.live_laws.proofs.Effects.Moved.{Apart}
use Rattle.split_kit.specs.Split.{is_border, is_gap, label_behind, last_label, marks_at, same_number, start_label}
use Rattle.split_choose.specs.Offers.{first_id}
use Rattle.split_laws.specs.Laws.{AllMeet, Meets, next_gap}

pub differ : (a c : ℕ) → (a ≡ c → ⊥) → nat_eq a c ≡ false
differ a c h = go (nat_eq a c) refl
  where
    go : (q : Bool) → nat_eq a c ≡ q → nat_eq a c ≡ false
    go true e = absurd (h (eqb-true a c e))
    go false e = e

-- the label of a mark, where there is one, or what held before
abbrev pub taken : Option ℕ → ℕ → ℕ
taken None now = now
taken (Some k) now = k

-- the same, where the mark is passed
abbrev pub picked : Bool → Option ℕ → ℕ → ℕ
picked b x now = cond b (taken x now) now

-- a mark at a spot of block n, where there is one
abbrev pub at_spot : ℕ → Spot → Option ℕ → List Mark
at_spot n s None = []
at_spot n s (Some k) = record { block = n; spot = s; label = k } ∷ []

abbrev pub gap_of : ℕ → Option ℕ → Spot
gap_of n g = spots.Gap (record { block = n; before = g })

-- marks at the start and at two gaps of block n
abbrev pub three : ℕ → Option ℕ → Option ℕ → Option ℕ → Option ℕ → Option ℕ → List Mark
three n F B s x y = at_spot n spots.Border s ++ (at_spot n (gap_of n F) x ++ (at_spot n (gap_of n B) y ++ []))

at-block : (n : ℕ) (s : Spot) (x : Option ℕ) (m : Mark) → Member m (at_spot n s x) → m.block ≡ n
at-block n s None m k = absurd (member-none m k)
at-block n s (Some l) m k = member-elim m (record { block = n; spot = s; label = l }) [] (λ e. ap (λ (z : Mark). z.block) e) (λ j. absurd (member-none m j)) k

pub three-block : (n : ℕ) (F B s x y : Option ℕ) (m : Mark) → Member m (three n F B s x y) → m.block ≡ n
three-block n F B s x y m k =
    either-elim m (at_spot n spots.Border s) (at_spot n (gap_of n F) x ++ (at_spot n (gap_of n B) y ++ [])) (at-block n spots.Border s m)
    (λ j. either-elim m (at_spot n (gap_of n F) x) (at_spot n (gap_of n B) y ++ []) (at-block n (gap_of n F) x m)
    (λ i. either-elim m (at_spot n (gap_of n B) y) [] (at-block n (gap_of n B) y m) (λ h. absurd (member-none m h)) i) j) k

-- the last of the marks that are passed
last-at : (test : Spot → Bool) (n : ℕ) (s : Spot) (x : Option ℕ) (now : ℕ) (rest : List Mark) → last_label now (filter (λ (m : Mark). test m.spot) (at_spot n s x ++ rest)) ≡ last_label (picked (test s) x now) (filter (λ (m : Mark). test m.spot) rest)
last-at test n s None now rest = go (test s)
  where
    go : (b : Bool) → last_label now (filter (λ (m : Mark). test m.spot) rest) ≡ last_label (cond b now now) (filter (λ (m : Mark). test m.spot) rest)
    go true = refl
    go false = refl
last-at test n s (Some k) now rest = go (test s)
  where
    go : (b : Bool) → last_label now (cond b (record { block = n; spot = s; label = k } ∷ filter (λ (m : Mark). test m.spot) rest) (filter (λ (m : Mark). test m.spot) rest)) ≡ last_label (cond b k now) (filter (λ (m : Mark). test m.spot) rest)
    go true = refl
    go false = refl

last-three : (test : Spot → Bool) (n : ℕ) (F B s x y : Option ℕ) (now : ℕ) → last_label now (filter (λ (m : Mark). test m.spot) (three n F B s x y)) ≡ picked (test (gap_of n B)) y (picked (test (gap_of n F)) x (picked (test spots.Border) s now))
last-three test n F B s x y now =
    last-at test n spots.Border s now (at_spot n (gap_of n F) x ++ (at_spot n (gap_of n B) y ++ []))
    ∙ (last-at test n (gap_of n F) x (picked (test spots.Border) s now) (at_spot n (gap_of n B) y ++ [])
    ∙ last-at test n (gap_of n B) y (picked (test (gap_of n F)) x (picked (test spots.Border) s now)) [])

-- the marks of block n are these
abbrev pub Owns : List Mark → ℕ → List Mark → Type 0
Owns ms n own = (test : Spot → Bool) → marks_at ms n (λ s. test s) ≡ filter (λ (m : Mark). test m.spot) own

skip : (n : ℕ) (test : Spot → Bool) (xs ys : List Mark) → ((m : Mark) → Member m xs → m.block ≡ n → ⊥) → marks_at (xs ++ ys) n test ≡ marks_at ys n test
skip n test [] ys h = refl
skip n test (m ∷ xs) ys h = ap (λ q. cond (q && test m.spot) (m ∷ marks_at (xs ++ ys) n test) (marks_at (xs ++ ys) n test)) (differ m.block n (h m first)) ∙ skip n test xs ys (λ k j. h k (later j))

none-at : (n : ℕ) (test : Spot → Bool) (ys : List Mark) → ((m : Mark) → Member m ys → m.block ≡ n → ⊥) → marks_at ys n test ≡ []
none-at n test [] h = refl
none-at n test (m ∷ ys) h = ap (λ q. cond (q && test m.spot) (m ∷ marks_at ys n test) (marks_at ys n test)) (differ m.block n (h m first)) ∙ none-at n test ys (λ k j. h k (later j))

pub own-first : (n : ℕ) (xs ys : List Mark) → ((m : Mark) → Member m xs → m.block ≡ n) → ((m : Mark) → Member m ys → m.block ≡ n → ⊥) → Owns (xs ++ ys) n xs
own-first n [] ys hx hy test = none-at n test ys hy
own-first n (m ∷ xs) ys hx hy test =
    let rest = own-first n xs ys (λ k j. hx k (later j)) hy test in
    λ i. cond (eq-eqb m.block n (hx m first) i && test m.spot) (m ∷ rest i) (rest i)

pub own-behind : (n : ℕ) (xs ys own : List Mark) → ((m : Mark) → Member m xs → m.block ≡ n → ⊥) → Owns ys n own → Owns (xs ++ ys) n own
own-behind n xs ys own h o test = skip n test xs ys h ∙ o test

-- marks block by block
pub owns-each : (g : Block → List Mark) → ((b : Block) (m : Mark) → Member m (g b) → m.block ≡ b.number) → (bs : List Block) → Apart (block_numbers bs) → (b : Block) → Member b bs → Owns (flat_map g bs) b.number (g b)
owns-each g h [] a b mb = absurd (member-none b mb)
owns-each g h (c ∷ bs) a b mb =
    member-elim b c bs
    (λ e. subst (λ (d : Block). Owns (flat_map g (c ∷ bs)) d.number (g d)) (sym e) (own-first c.number (g c) (flat_map g bs) (h c) (λ m k q. a.0 (subst (λ n. Member n (block_numbers bs)) q (among m k)))))
    (λ k. own-behind b.number (g c) (flat_map g bs) (g b) (λ m j q. a.0 (subst (λ n. Member n (block_numbers bs)) (sym q ∙ h c m j) (map-in (λ (d : Block). d.number) b bs k))) (owns-each g h bs a.1 b k)) mb
  where
    among : (m : Mark) → Member m (flat_map g bs) → Member m.block (block_numbers bs)
    among m k = let z = flat-of g m bs k in subst (λ n. Member n (block_numbers bs)) (sym (h z.0 m z.2)) (map-in (λ (d : Block). d.number) z.0 bs z.1)

-- the marks of a block are at its start, at its first gap and before its terminators
pub record Parted (t : Target) (ms : List Mark) (b : Block) : Type 0 where
  pub start : Option ℕ
  pub gap : Option ℕ
  pub last : Option ℕ
  pub owns : Owns ms b.number (three b.number (first_id b.instrs) (first_id (filter (does is_terminator t) b.instrs)) start gap last)

-- the label at the block's end
abbrev pub end_label : (t : Target) (ms : List Mark) (b : Block) → Parted t ms b → ℕ
end_label t ms b p = taken p.last (taken p.gap (taken p.start 0))

pub starts-with : (t : Target) (ms : List Mark) (b : Block) (p : Parted t ms b) → start_label ms b.number ≡ taken p.start 0
starts-with t ms b p = ap (last_label 0) (p.owns is_border) ∙ last-three is_border b.number (first_id b.instrs) (first_id (filter (does is_terminator t) b.instrs)) p.start p.gap p.last 0

-- in such a block labels agree, where that at its end does
module _ (t : Target) (f : Function) (v : ℕ) (ms : List Mark) (b : Block) (p : Parted t ms b) (meets : Meets t f v ms b.successors (end_label t ms b p)) where
  abbrev F : Option ℕ
  F = first_id b.instrs

  abbrev B : Option ℕ
  B = first_id (filter (does is_terminator t) b.instrs)

  abbrev x : Option ℕ
  x = p.gap

  abbrev y : Option ℕ
  y = p.last

  abbrev from : ℕ
  from = taken p.start 0

  abbrev mid : ℕ
  mid = taken x from

  abbrev end : ℕ
  end = taken y mid

  behind-is : (g : Option ℕ) (now : ℕ) → label_behind ms b.number g now ≡ picked (same_number B g) y (picked (same_number F g) x now)
  behind-is g now = ap (last_label now) (p.owns (is_gap g)) ∙ last-three (is_gap g) b.number F B p.start x y now

  -- the gap is neither of the two
  abbrev Misses : Option ℕ → Type 0
  Misses g = (same_number F g ≡ false) × (same_number B g ≡ false)

  passed : (g : Option ℕ) (now : ℕ) → Misses g → label_behind ms b.number g now ≡ now
  passed g now m = behind-is g now ∙ (λ k. picked (m.1 k) y (picked (m.0 k) x now))

  -- what has to hold behind a gap where this label holds
  abbrev Behind : ℕ → Instr → List Instr → Type 0
  Behind now i is = (does is_terminator t i ≡ true → Meets t f v ms b.successors now × (label_behind ms b.number (next_gap is) now ≡ now)) × AllMeet t f v ms b now is

  next-stays : (is : List Instr) → Misses None → ((j : Instr) → Member j is → Misses (Some j.id)) → label_behind ms b.number (next_gap is) end ≡ end
  next-stays [] none each = passed None end none
  next-stays (j ∷ is) none each = passed (Some j.id) end (each j first)

  late : (is : List Instr) → Misses None → ((j : Instr) → Member j is → Misses (Some j.id)) → AllMeet t f v ms b end is
  late [] none each = subst (Meets t f v ms b.successors) (sym (passed None end none)) meets
  late (i ∷ is) none each =
      subst (λ n. Behind n i is) (sym (passed (Some i.id) end (each i first)))
      ((λ e. (meets, next-stays is none (λ j m. each j (later m)))), late is none (λ j m. each j (later m)))

  others : (i : Instr) (is : List Instr) → (Member i.id (map (λ (c : Instr). c.id) is) → ⊥) → (j : Instr) → Member j is → nat_eq i.id j.id ≡ false
  others i is a j m = differ i.id j.id (λ e. a (subst (λ n. Member n (map (λ (c : Instr). c.id) is)) (sym e) (map-in (λ (c : Instr). c.id) j is m)))

  first-other : (js : List Instr) (n : ℕ) → ((j : Instr) → Member j js → j.id ≡ n → ⊥) → same_number (first_id js) (Some n) ≡ false
  first-other [] n h = refl
  first-other (j ∷ js) n h = differ j.id n (h j first)

  behind-other : (i : Instr) (is : List Instr) → (Member i.id (map (λ (c : Instr). c.id) is) → ⊥) → same_number (first_id (filter (does is_terminator t) is)) (Some i.id) ≡ false
  behind-other i is a = first-other (filter (does is_terminator t) is) i.id (λ j m e. a (subst (λ n. Member n (map (λ (c : Instr). c.id) is)) e (map-in (λ (c : Instr). c.id) j is (filter-of (does is_terminator t) j is m).0)))

  no-terminator : (i : Instr) (now : ℕ) (is : List Instr) → does is_terminator t i ≡ false → does is_terminator t i ≡ true → Meets t f v ms b.successors now × (label_behind ms b.number (next_gap is) now ≡ now)
  no-terminator i now is d e = absurd (let z : true ≡ false = sym e ∙ d in cc)

  -- behind the first gap
  middle : (is : List Instr) → B ≡ first_id (filter (does is_terminator t) is) → same_number F None ≡ false → ((j : Instr) → Member j is → same_number F (Some j.id) ≡ false) → Apart (map (λ (c : Instr). c.id) is) → AllMeet t f v ms b mid is
  middle [] eb none each a = subst (Meets t f v ms b.successors) (sym (behind-is None mid ∙ (λ k. picked (same_number (eb k) None) y (picked (none k) x mid)))) meets
  middle (i ∷ is) eb none each a = go (does is_terminator t i) refl eb (λ q. middle is q none (λ j m. each j (later m)) a.1)
    where
      go : (d : Bool) → does is_terminator t i ≡ d → B ≡ first_id (cond d (i ∷ filter (does is_terminator t) is) (filter (does is_terminator t) is)) → (B ≡ first_id (filter (does is_terminator t) is) → AllMeet t f v ms b mid is) → AllMeet t f v ms b mid (i ∷ is)
      go true d q ih =
          let own : same_number B (Some i.id) ≡ true = ap (λ z. same_number z (Some i.id)) q ∙ eq-eqb i.id i.id refl in
          let hit : label_behind ms b.number (Some i.id) mid ≡ end = behind-is (Some i.id) mid ∙ (λ k. picked (own k) y (picked (each i first k) x mid)) in
          let now-none : Misses None = (none, ap (λ z. same_number z None) q) in
          let misses : (j : Instr) → Member j is → Misses (Some j.id) = λ j m. (each j (later m), ap (λ z. same_number z (Some j.id)) q ∙ others i is a.0 j m) in
          subst (λ n. Behind n i is) (sym hit) ((λ e. (meets, next-stays is now-none misses)), late is now-none misses)
      go false d q ih =
          let pass : label_behind ms b.number (Some i.id) mid ≡ mid = passed (Some i.id) mid (each i first, ap (λ z. same_number z (Some i.id)) q ∙ behind-other i is a.0) in
          subst (λ n. Behind n i is) (sym pass) (no-terminator i mid is d, ih q)

  -- all of the block
  whole : (is : List Instr) → F ≡ first_id is → B ≡ first_id (filter (does is_terminator t) is) → Apart (map (λ (c : Instr). c.id) is) → AllMeet t f v ms b from is
  whole [] ef eb a = subst (Meets t f v ms b.successors) (sym (behind-is None from ∙ (λ k. picked (same_number (eb k) None) y (picked (same_number (ef k) None) x from)))) meets
  whole (i ∷ is) ef eb a = go (does is_terminator t i) refl eb
    where
      own : same_number F (Some i.id) ≡ true
      own = ap (λ z. same_number z (Some i.id)) ef ∙ eq-eqb i.id i.id refl

      none : same_number F None ≡ false
      none = ap (λ z. same_number z None) ef

      each : (j : Instr) → Member j is → same_number F (Some j.id) ≡ false
      each j m = ap (λ z. same_number z (Some j.id)) ef ∙ others i is a.0 j m

      go : (d : Bool) → does is_terminator t i ≡ d → B ≡ first_id (cond d (i ∷ filter (does is_terminator t) is) (filter (does is_terminator t) is)) → AllMeet t f v ms b from (i ∷ is)
      go true d q =
          let both : same_number B (Some i.id) ≡ true = ap (λ z. same_number z (Some i.id)) q ∙ eq-eqb i.id i.id refl in
          let hit : label_behind ms b.number (Some i.id) from ≡ end = behind-is (Some i.id) from ∙ (λ k. picked (both k) y (picked (own k) x from)) in
          let now-none : Misses None = (none, ap (λ z. same_number z None) q) in
          let misses : (j : Instr) → Member j is → Misses (Some j.id) = λ j m. (each j m, ap (λ z. same_number z (Some j.id)) q ∙ others i is a.0 j m) in
          subst (λ n. Behind n i is) (sym hit) ((λ e. (meets, next-stays is now-none misses)), late is now-none misses)
      go false d q =
          let hit : label_behind ms b.number (Some i.id) from ≡ mid = behind-is (Some i.id) from ∙ (λ k. picked ((ap (λ z. same_number z (Some i.id)) q ∙ behind-other i is a.0) k) y (picked (own k) x from)) in
          subst (λ n. Behind n i is) (sym hit) (no-terminator i mid is d, middle is q none each a.1)

  pub agrees : Apart (map (λ (c : Instr). c.id) b.instrs) → AllMeet t f v ms b (start_label ms b.number) b.instrs
  agrees a = subst (λ n. AllMeet t f v ms b n b.instrs) (sym (starts-with t ms b p)) (whole b.instrs refl refl a)
