-- The numbers of lanes one after another.
use Rattle.std.proofs.Common.{◌≡◌, ◌<◌, ◌≤◌, ℕ, zero, suc, ◌+◌, Bool, true, false, cond, List, [], ◌∷◌, ◌++◌, Option, Some, None, map, flat_map, filter_map, length, get_or, take, refl, sym, ap, ap₂, ◌∙◌, arith, min, append-nil}
use Rattle.std.specs.Prelude.{slice_get, option_and_then, zip}
use Rattle.std.specs.List.{cons_option}
use Rattle.std.proofs.lemmas.List.Elements.{filter_map-append}
use Rattle.std.proofs.lemmas.Slice.Zip.{length-zip, get_or-zip}
use Rattle.mir_meaning.specs.Registers.{numbers}
use Rattle.target_base.specs.declared.types.Unit.{Unit as UnitNumber}
use Rattle.target_base.specs.declared.types.Target.{Target}
use Rattle.meaning.specs.declared.types.Lane.TheVariants.{VirtualLane}
use Rattle.mir_func.specs.declared.func.RegOp.{RegOp}
use Rattle.mir_func.specs.Value.{Function}
use Rattle.mir_meaning.specs.Registers.{unit_lanes, use_sources, undefined_lanes}
use Rattle.instr_effects.specs.declared.lanes.LaneTable.{LaneTable}
use Rattle.instr_effects.specs.declared.acts.Act.{Act}
use Rattle.instr_effects.specs.declared.owner.Owner.{Owner}
use Rattle.instr_effects.specs.declared.row.LaneSpan.{LaneSpan}
use Rattle.instr_effects.specs.Owners.{owner_of, source_owner, operand_owners}
use Rattle.instr_effects.specs.Row.{lane_in}
use Rattle.instr_effects.specs.Numbers.{unit_number_in, row_number_in}
use Rattle.instr_effects.specs.Numbered.{number_in}
use Rattle.instr_effects.specs.Acts.{plain, moved_acts, result_acts, use_owners, definition_acts}
use Rattle.instr_effects.specs.Steps.{Numbering, writing, act_writing, act_writings, act_reading, act_readings, is_unnumbered}
use Rattle.instr_effects.specs.Runs.{Pair, one_lane, one_writing, one_move, one_kept}
use Rattle.instr_effects.proofs.Loops.{get-same, gathered_more, gathered_all}
use Rattle.instr_effects.proofs.Operands.{read_owners_of, given_owners_of}

pub map_at : {X Y : Type 0} (f : X → Option Y) (xs : List X) (k : ℕ) → get_or (map f xs) k None ≡ elim (slice_get xs k) [ None ↦ None | Some x ↦ f x ]
map_at f [] k = refl
map_at f (x ∷ xs) zero = refl
map_at f (x ∷ xs) (suc k) = map_at f xs k

numbered_at : {Y : Type 0} (f : ℕ → Option Y) (n count k : ℕ) → k < count → get_or (map f (numbers n count)) k None ≡ f (n + k)
numbered_at f n zero k h = absurd (omega arith)
numbered_at f n (suc count) zero h = let e : n + 0 ≡ n = omega arith in ap f (sym e)
numbered_at f n (suc count) (suc k) h = let e : suc n + k ≡ n + suc k = omega arith in numbered_at f (suc n) count k (omega arith) ∙ ap f e

pub first_at : {Y : Type 0} (f : ℕ → Option Y) (count k : ℕ) → k < count → get_or (map f (numbers 0 count)) k None ≡ f k
first_at f count k h = let e : 0 + k ≡ k = omega arith in numbered_at f 0 count k h ∙ ap f e

past-numbers : {Y : Type 0} (f : ℕ → Option Y) (n count k : ℕ) → count ≤ k → get_or (map f (numbers n count)) k None ≡ None
past-numbers f n zero k h = refl
past-numbers f n (suc count) zero h = absurd (omega arith)
past-numbers f n (suc count) (suc k) h = past-numbers f (suc n) count k (omega arith)

pub past_first : {Y : Type 0} (f : ℕ → Option Y) (count k : ℕ) → count ≤ k → get_or (map f (numbers 0 count)) k None ≡ None
past_first f count k h = past-numbers f 0 count k h

-- no lane has a number
abbrev pub no-number : {X : Type 0} → X → Option ℕ
no-number x = None

abbrev no-owner : {X : Type 0} → X → Option Owner
no-owner x = None

nothing-at : (n count k : ℕ) → get_or (map (λ (m : ℕ). no-number m) (numbers n count)) k None ≡ None
nothing-at n zero k = refl
nothing-at n (suc count) zero = refl
nothing-at n (suc count) (suc k) = nothing-at (suc n) count k

pub nothing_at : (count k : ℕ) → get_or (map (λ (n : ℕ). no-number n) (numbers 0 count)) k None ≡ None
nothing_at count k = nothing-at 0 count k

numbers-long : (n k : ℕ) → length (numbers n k) ≡ k
numbers-long n zero = refl
numbers-long n (suc k) = ap (λ m. suc m) (numbers-long (suc n) k)

pub map-long : {X Y : Type 0} (g : X → Y) (xs : List X) → length (map g xs) ≡ length xs
map-long g [] = refl
map-long g (x ∷ xs) = ap (λ k. suc k) (map-long g xs)

pub numbers_many : {Y : Type 0} (g : ℕ → Y) (k : ℕ) → length (map g (numbers 0 k)) ≡ k
numbers_many g k = map-long g (numbers 0 k) ∙ numbers-long 0 k

-- steps of loops that go by places

pub gathered_at : {X Y : Type 0} (f : Option X → List Y) (start now : List Y) (xs : List (Option X)) (k : ℕ) → k < length xs → now ≡ start ++ flat_map f (take k xs) → now ++ f (get_or xs k None) ≡ start ++ flat_map f (take (k + 1) xs)
gathered_at f start now xs k h so = gathered_more f start now xs k (get_or xs k None) h (get-same xs k None (get_or xs k None) h) so

pair_at : (xs ys : List (Option ℕ)) (k : ℕ) → k < length xs → k < length ys → (get_or xs k None, get_or ys k None) ≡ get_or (zip xs ys) k (get_or xs k None, get_or ys k None)
pair_at xs ys k h g = sym (get_or-zip xs ys k (get_or xs k None, get_or ys k None) h g ∙ ap₂ (λ a b. (a, b)) (get-same xs k (get_or xs k None) None h) (get-same ys k (get_or ys k None) None g))

pub moved_at : {Y : Type 0} (f : Pair → List Y) (start now : List Y) (xs ys : List (Option ℕ)) (k : ℕ) → k < length xs → k < length ys → now ≡ start ++ flat_map f (take k (zip xs ys)) → now ++ f (get_or xs k None, get_or ys k None) ≡ start ++ flat_map f (take (k + 1) (zip xs ys))
moved_at f start now xs ys k h g so = gathered_more f start now (zip xs ys) k (get_or xs k None, get_or ys k None) long (pair_at xs ys k h g) so
  where
    long : k < length (zip xs ys)
    long = omega (arith, length-zip xs ys)

pub moved_all : {Y : Type 0} (f : Pair → List Y) (start now : List Y) (xs ys : List (Option ℕ)) (k : ℕ) → min (length xs) (length ys) ≤ k → now ≡ start ++ flat_map f (take k (zip xs ys)) → now ≡ start ++ flat_map f (zip xs ys)
moved_all f start now xs ys k h so = gathered_all f start now (zip xs ys) k long so
  where
    long : length (zip xs ys) ≤ k
    long = omega (arith, length-zip xs ys)

-- the lanes of operands

pub range_run : (x : LaneSpan) (tab : LaneTable) (v : ℕ) → ((k : ℕ) → lane_in x.first x.count k ≡ row_number_in (slice_get tab.ranges.items v) k) → (ks : List ℕ) → map (lane_in x.first x.count) ks ≡ map (number_in tab) (map owner_of (map (VirtualLane v) ks))
range_run x tab v h [] = refl
range_run x tab v h (k ∷ ks) = ap₂ (λ a b. a ∷ b) (h k) (range_run x tab v h ks)

pub unit_run : (tab : LaneTable) (us : List UnitNumber) → map (λ u. unit_number_in tab.reserved.items u.0) us ≡ map (number_in tab) (map owner_of (unit_lanes us))
unit_run tab [] = refl
unit_run tab (u ∷ us) = ap (λ t. unit_number_in tab.reserved.items u.0 ∷ t) (unit_run tab us)

-- what is entered of lanes, by their numbers

module _ (num : Numbering) where
  pub numbered : (os : List Owner) → filter_map num os ≡ flat_map one_lane (map num os)
  numbered [] = refl
  numbered (o ∷ os) = go (num o) (numbered os)
    where
      go : (n : Option ℕ) → filter_map num os ≡ flat_map one_lane (map num os) → cons_option n (filter_map num os) ≡ one_lane n ++ flat_map one_lane (map num os)
      go None h = h
      go (Some n) h = ap (λ t. n ∷ t) h

  pub written : (early : Bool) (os : List Owner) → act_writings num (map (plain early) os) ≡ flat_map (one_writing early) (map num os)
  written early [] = refl
  written early (o ∷ os) = go (num o) (written early os)
    where
      go : (n : Option ℕ) → act_writings num (map (plain early) os) ≡ flat_map (one_writing early) (map num os) → cons_option (elim n [ None ↦ None | Some m ↦ Some (writing num (plain early o) m) ]) (act_writings num (map (plain early) os)) ≡ one_writing early n ++ flat_map (one_writing early) (map num os)
      go None h = h
      go (Some n) h = ap (λ t. record { lane = n; from = None; early = early } ∷ t) h

  pub unread : {X : Type 0} (early : Bool) (g : X → Owner) (xs : List X) → act_readings num (map (λ x. plain early (g x)) xs) ≡ []
  unread early g [] = refl
  unread early g (x ∷ xs) = go (num (g x)) (unread early g xs)
    where
      go : (n : Option ℕ) → act_readings num (map (λ x. plain early (g x)) xs) ≡ [] → cons_option (cond (is_unnumbered n) None None) (act_readings num (map (λ x. plain early (g x)) xs)) ≡ []
      go None h = h
      go (Some n) h = h

  pub moves : (early : Bool) (os : List Owner) (ss : List (Option Owner)) → act_writings num (moved_acts early os ss) ≡ flat_map (one_move early) (zip (map num os) (map (option_and_then num) ss))
  moves early [] ss = refl
  moves early (o ∷ os) [] = refl
  moves early (o ∷ os) (s ∷ ss) = go (num o) (moves early os ss)
    where
      go : (n : Option ℕ) → act_writings num (moved_acts early os ss) ≡ flat_map (one_move early) (zip (map num os) (map (option_and_then num) ss)) → cons_option (elim n [ None ↦ None | Some m ↦ Some (writing num (record { lane = o; from = s; early = early }) m) ]) (act_writings num (moved_acts early os ss)) ≡ one_move early (n, option_and_then num s) ++ flat_map (one_move early) (zip (map num os) (map (option_and_then num) ss))
      go None h = h
      go (Some n) h = ap (λ t. record { lane = n; from = option_and_then num s; early = early } ∷ t) h

  one-more : (m : Option ℕ) (xs ys : List ℕ) → xs ≡ ys → cons_option m xs ≡ one_lane m ++ ys
  one-more None xs ys h = h
  one-more (Some n) xs ys h = ap (λ t. n ∷ t) h

  pub kept : (early : Bool) (os : List Owner) (ss : List (Option Owner)) → act_readings num (moved_acts early os ss) ≡ flat_map one_kept (zip (map num os) (map (option_and_then num) ss))
  kept early [] ss = refl
  kept early (o ∷ os) [] = refl
  kept early (o ∷ os) (s ∷ ss) = go (num o) (kept early os ss)
    where
      go : (n : Option ℕ) → act_readings num (moved_acts early os ss) ≡ flat_map one_kept (zip (map num os) (map (option_and_then num) ss)) → cons_option (cond (is_unnumbered n) (option_and_then num s) None) (act_readings num (moved_acts early os ss)) ≡ one_kept (n, option_and_then num s) ++ flat_map one_kept (zip (map num os) (map (option_and_then num) ss))
      go None h = one-more (option_and_then num s) (act_readings num (moved_acts early os ss)) (flat_map one_kept (zip (map num os) (map (option_and_then num) ss))) h
      go (Some n) h = h

  pub somes : (os : List Owner) → map (option_and_then num) (map Some os) ≡ map num os
  somes [] = refl
  somes (o ∷ os) = ap (λ t. num o ∷ t) (somes os)

  nones : {X : Type 0} (n i : ℕ) (xs : List X) → n ≡ length xs → map (λ (k : ℕ). no-number k) (numbers i n) ≡ map (λ (x : X). no-number x) xs
  nones zero i [] e = refl
  nones zero i (x ∷ xs) e = absurd (omega arith)
  nones (suc n) i [] e = absurd (omega arith)
  nones (suc n) i (x ∷ xs) e = ap (λ t. None ∷ t) (nones n (suc i) xs (omega arith))

  pub no_run : {X : Type 0} (n : ℕ) (xs : List X) → n ≡ length xs → map (λ (k : ℕ). no-number k) (numbers 0 n) ≡ map (λ (x : X). no-number x) xs
  no_run n xs e = nones n 0 xs e

  pub none_given : {X : Type 0} (xs : List X) → map (option_and_then num) (map (λ (x : X). no-owner x) xs) ≡ map (λ (x : X). no-number x) xs
  none_given [] = refl
  none_given (x ∷ xs) = ap (λ t. None ∷ t) (none_given xs)

  module _ (t : Target) (f : Function) (o : RegOp) where
    pub given_run : o.undef ≡ false → map (option_and_then num) (map source_owner (use_sources t f o)) ≡ map num (operand_owners t f o)
    given_run e = ap (map (option_and_then num)) (given_owners_of t f o ∙ ap (λ b. cond b (map (λ x. None) (operand_owners t f o)) (map Some (operand_owners t f o))) e) ∙ somes (operand_owners t f o)

    pub undef_run : (n : ℕ) → o.undef ≡ true → n ≡ length (map num (operand_owners t f o)) → map (λ (k : ℕ). no-number k) (numbers 0 n) ≡ map (option_and_then num) (map source_owner (use_sources t f o))
    undef_run n e h =
        no_run n (operand_owners t f o) (h ∙ map-long num (operand_owners t f o))
        ∙ sym (ap (map (option_and_then num)) (given_owners_of t f o ∙ ap (λ b. cond b (map (λ x. None) (operand_owners t f o)) (map Some (operand_owners t f o))) e) ∙ none_given (operand_owners t f o))

    pub read_run : o.undef ≡ false → filter_map num (use_owners t f o) ≡ flat_map one_lane (map num (operand_owners t f o))
    read_run e = ap (filter_map num) (read_owners_of t f o ∙ ap (λ b. cond b [] (operand_owners t f o)) e) ∙ numbered (operand_owners t f o)

    pub read_none : o.undef ≡ true → filter_map num (use_owners t f o) ≡ []
    read_none e = ap (filter_map num) (read_owners_of t f o ∙ ap (λ b. cond b [] (operand_owners t f o)) e)

    pub result_run : (early : Bool) → act_writings num (result_acts t f early o) ≡ flat_map (one_writing early) (map num (operand_owners t f o)) ++ flat_map (one_writing early) (map num (map owner_of (undefined_lanes t f o)))
    result_run early =
        filter_map-append (act_writing num) (map (plain early) (operand_owners t f o)) (map (plain early) (map owner_of (undefined_lanes t f o)))
        ∙ ap₂ (λ x y. x ++ y) (written early (operand_owners t f o)) (written early (map owner_of (undefined_lanes t f o)))

    pub define_writings : (early : Bool) (ss : List (Option Owner)) → act_writings num (definition_acts t f early o ss) ≡ flat_map (one_move early) (zip (map num (operand_owners t f o)) (map (option_and_then num) ss)) ++ flat_map (one_writing early) (map num (map owner_of (undefined_lanes t f o)))
    define_writings early ss =
        filter_map-append (act_writing num) (moved_acts early (operand_owners t f o) ss) (map (plain early) (map owner_of (undefined_lanes t f o)))
        ∙ ap₂ (λ x y. x ++ y) (moves early (operand_owners t f o) ss) (written early (map owner_of (undefined_lanes t f o)))

    pub define_readings : (early : Bool) (ss : List (Option Owner)) → act_readings num (definition_acts t f early o ss) ≡ flat_map one_kept (zip (map num (operand_owners t f o)) (map (option_and_then num) ss))
    define_readings early ss =
        filter_map-append (act_reading num) (moved_acts early (operand_owners t f o) ss) (map (plain early) (map owner_of (undefined_lanes t f o)))
        ∙ ap₂ (λ x y. x ++ y) (kept early (operand_owners t f o) ss) (unread early (λ l. l) (map owner_of (undefined_lanes t f o)))
        ∙ append-nil (flat_map one_kept (zip (map num (operand_owners t f o)) (map (option_and_then num) ss)))

pub nothing_written : (num : Numbering) (acts : List Act) → acts ≡ [] → act_writings num acts ≡ []
nothing_written num acts e = ap (act_writings num) e

pub nothing_read : (num : Numbering) (acts : List Act) → acts ≡ [] → act_readings num acts ≡ []
nothing_read num acts e = ap (act_readings num) e
