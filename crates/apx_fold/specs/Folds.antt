-- What each type of fold serves, and which tuples it stands for.
use Rattle.std.specs.Prelude.{◌≡◌, List, take}
use Rattle.std.specs.List.{flat_map}
use Rattle.apx_order.specs.Sorted.{sorted}
use Rattle.apx_tuple.specs.declared.kind.Kind.TheVariants.{Top}
use Rattle.apx_tuple.specs.declared.tuple.Tuple.{Tuple}
use Rattle.apx_rules.specs.Step.{rank_order}
use Rattle.apx_fold.specs.declared.best.Best.{Best}
use Rattle.apx_fold.specs.declared.digest.Digest.{Digest}
use Rattle.apx_fold.specs.declared.fold.Fold.{Fold}
use Rattle.apx_fold.specs.declared.fold.Fold.TheVariants as folds
use Rattle.apx_fold.specs.declared.gathered.Gathered.{Gathered}
use Rattle.apx_fold.specs.declared.told.Told.{Told}
use Rattle.apx_fold.specs.Digests.{AreDigests}
use Rattle.apx_fold.specs.Folding.{Partition, owned}
use Rattle.apx_fold.specs.Telling.{told_of}

-- of a fold that keeps all tuples
abbrev pub gathered_part : Gathered → Partition
gathered_part fold = record { kind = fold.kind; n = fold.share.n; i = fold.share.i }

-- they are those that the partition owns, in the order in which they came
abbrev pub gathered_stands : Gathered → List Tuple → List Tuple → Type 0
gathered_stands fold lefts rights =
    (fold.lefts.items ≡ owned (gathered_part fold) lefts) × (fold.rights.items ≡ owned (gathered_part fold) rights)

-- of a fold that tells each tuple
abbrev pub told_part : Told → Partition
told_part fold = record { kind = fold.kind; n = fold.share.n; i = fold.share.i }

-- what was told is what is told of those that the partition owns
abbrev pub told_stands : Told → List Tuple → List Tuple → Type 0
told_stands fold lefts rights = fold.told.items ≡ flat_map (told_of fold.kind) (owned (told_part fold) lefts)

-- of a fold that keeps a number for each key
abbrev pub digest_part : Digest → Partition
digest_part fold = record { kind = fold.kind; n = fold.share.n; i = fold.share.i }

-- the numbers stand for the values that the partition owns
abbrev pub digest_stands : Digest → List Tuple → List Tuple → Type 0
digest_stands fold lefts rights = AreDigests fold.kind fold.numbers (owned (digest_part fold) lefts)

-- of a fold that keeps the tuples that rank first
abbrev pub best_part : Best → Partition
best_part fold = record { kind = Top fold.k; n = fold.share.n; i = fold.share.i }

-- they are the first of those that the partition owns
abbrev pub best_stands : Best → List Tuple → List Tuple → Type 0
best_stands fold lefts rights = fold.first.items ≡ take fold.k (sorted rank_order (owned (best_part fold) lefts))

-- of a fold of any kind
abbrev pub fold_part : Fold → Partition
fold_part (folds.Gathered fold) = gathered_part fold
fold_part (folds.Told fold) = told_part fold
fold_part (folds.Digest fold) = digest_part fold
fold_part (folds.Best fold) = best_part fold

-- the tuples that the fold of its type stands for
abbrev pub fold_stands : Fold → List Tuple → List Tuple → Type 0
fold_stands (folds.Gathered fold) lefts rights = gathered_stands fold lefts rights
fold_stands (folds.Told fold) lefts rights = told_stands fold lefts rights
fold_stands (folds.Digest fold) lefts rights = digest_stands fold lefts rights
fold_stands (folds.Best fold) lefts rights = best_stands fold lefts rights
