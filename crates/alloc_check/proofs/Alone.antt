-- Writes of one function alone are writes of both, of which the other writes nothing.
use Rattle.std.proofs.Common.{◌≡◌, ◌∷◌, ◌||◌, true, [], refl}
use Rattle.std.proofs.lemmas.Bool.{and_from}
use Rattle.meaning.specs.declared.types.Source.{Source}
use Rattle.meaning.specs.declared.types.Source.TheVariants.{FromLane, Undef, Bits}
use Rattle.meaning.specs.declared.types.Fill.{Fill}
use Rattle.meaning.specs.declared.types.Fill.TheVariants.{Moved, Computed}
use Rattle.meaning.specs.Lanes.{Writes, settled, through}
use Rattle.meaning.specs.Facts.{Facts, Knowledge, all_known, known_first, known_second, known_both, known_left, one_result}
use Rattle.laws.proofs.Following.{both-true}
use Rattle.laws.proofs.Closed.{or-right}

left-alone : (k : Knowledge) (g : Fill) (t : Source) → one_result g (Moved t) || known_left k g t ≡ true → known_left k g t ≡ true
left-alone k (Moved s) t h = h
left-alone k (Computed i) t h = h

first-alone : (ws : Writes) (k : Knowledge) (s t : Source) → known_both ws [] k s t ≡ true → known_first ws k s t ≡ true
first-alone ws k s (FromLane l) h = left-alone k (through ws s) (FromLane l) h
first-alone ws k s Undef h = left-alone k (through ws s) Undef h
first-alone ws k s (Bits c low width) h = left-alone k (through ws s) (Bits c low width) h

right-alone : (k : Knowledge) (s : Source) (g : Fill) → one_result (Moved s) g || k s (settled g) ≡ true → k s (settled g) ≡ true
right-alone k s (Moved t) h = h
right-alone k s (Computed i) h = h

second-alone : (vs : Writes) (k : Knowledge) (s t : Source) → known_both [] vs k s t ≡ true → known_second vs k s t ≡ true
second-alone vs k (FromLane l) t h = right-alone k (FromLane l) (through vs t) h
second-alone vs k Undef t h = right-alone k Undef (through vs t) h
second-alone vs k (Bits c low width) t h = right-alone k (Bits c low width) (through vs t) h

pub all-alike : (k k' : Knowledge) → ((s t : Source) → k s t ≡ true → k' s t ≡ true) → (facts : Facts) → all_known k facts ≡ true → all_known k' facts ≡ true
all-alike k k' step [] h = refl
all-alike k k' step (f ∷ facts) h =
    let p = both-true (k f.0 f.1) (all_known k facts) h in
    and_from (k' f.0 f.1) (all_known k' facts) (step f.0 f.1 p.0) (all-alike k k' step facts p.1)

pub firsts-alone : (ws : Writes) (k : Knowledge) (facts : Facts) → all_known (known_both ws [] k) facts ≡ true → all_known (known_first ws k) facts ≡ true
firsts-alone ws k facts h = all-alike (known_both ws [] k) (known_first ws k) (first-alone ws k) facts h

pub seconds-alone : (vs : Writes) (k : Knowledge) (facts : Facts) → all_known (known_both [] vs k) facts ≡ true → all_known (known_second vs k) facts ≡ true
seconds-alone vs k facts h = all-alike (known_both [] vs k) (known_second vs k) (second-alone vs k) facts h

-- and the other way
alone-first : (ws : Writes) (k : Knowledge) (s t : Source) → known_first ws k s t ≡ true → known_both ws [] k s t ≡ true
alone-first ws k s (FromLane l) h = or-right (one_result (through ws s) (Moved (FromLane l))) (known_left k (through ws s) (FromLane l)) h
alone-first ws k s Undef h = or-right (one_result (through ws s) (Moved Undef)) (known_left k (through ws s) Undef) h
alone-first ws k s (Bits c low width) h = or-right (one_result (through ws s) (Moved (Bits c low width))) (known_left k (through ws s) (Bits c low width)) h

alone-second : (vs : Writes) (k : Knowledge) (s t : Source) → known_second vs k s t ≡ true → known_both [] vs k s t ≡ true
alone-second vs k (FromLane l) t h = or-right (one_result (Moved (FromLane l)) (through vs t)) (k (FromLane l) (settled (through vs t))) h
alone-second vs k Undef t h = or-right (one_result (Moved Undef) (through vs t)) (k Undef (settled (through vs t))) h
alone-second vs k (Bits c low width) t h = or-right (one_result (Moved (Bits c low width)) (through vs t)) (k (Bits c low width) (settled (through vs t))) h

pub alone-firsts : (ws : Writes) (k : Knowledge) (facts : Facts) → all_known (known_first ws k) facts ≡ true → all_known (known_both ws [] k) facts ≡ true
alone-firsts ws k facts h = all-alike (known_first ws k) (known_both ws [] k) (alone-first ws k) facts h

pub alone-seconds : (vs : Writes) (k : Knowledge) (facts : Facts) → all_known (known_second vs k) facts ≡ true → all_known (known_both [] vs k) facts ≡ true
alone-seconds vs k facts h = all-alike (known_second vs k) (known_both [] vs k) (alone-second vs k) facts h
