-- The site file, its refusals, and the run of it.
use Rattle.std.specs.Prelude.{ℕ, zero, suc, ◌+◌, ◌*◌, Bool, not, ◌&&◌, List, length, get_or, take, drop, eqb, leb, ltb}
use Rattle.std.proofs.Math.Option.{Option, none, some}
use Rattle.std.specs.Prelude.{if◌then◌else◌}
use Rattle.lock.specs.File.{sizes_of, paired, sizes_fit, or_else}
use Rattle.dispatch_model.specs.File.{first_refusal}
use Rattle.site_model.specs.Site.{Site, Going, Went, on, stopped, run, site}

-- "a site file has N, F, T; hold and think, a byte each; … S in two bytes, …; a warm-up in four bytes, low byte first,
-- behind S": 11 bytes
abbrev pub hold_of : List ℕ → ℕ
hold_of b = get_or b 3 0

abbrev pub think_of : List ℕ → ℕ
think_of b = get_or b 4 0

abbrev pub row_count : List ℕ → ℕ
row_count b = get_or b 5 0 + 256 * get_or b 6 0

abbrev pub warm_of : List ℕ → ℕ
warm_of b = (get_or b 7 0 + 256 * get_or b 8 0) + 65536 * (get_or b 9 0 + 256 * get_or b 10 0)

-- "S rows of wanted calls as the dispatcher's": "S thread numbers, then S orders"
abbrev pub threads_of : List ℕ → List ℕ
threads_of b = take (row_count b) (drop 11 b)

abbrev pub orders_of : List ℕ → List ℕ
orders_of b = drop (11 + row_count b) b

abbrev pub site_of : List ℕ → Site
site_of b =
    record {
      sizes = sizes_of b;
      hold = hold_of b;
      think = think_of b;
      warm = warm_of b;
      threads = threads_of b;
      orders = orders_of b;
    }

-- ---- refusals before the first turn

-- "N, 1 to 32", "F, 1 to 16", "T, 1 to 64", "S, 0 to 4,096"
abbrev pub sizes_in_range : List ℕ → Bool
sizes_in_range b = sizes_fit (sizes_of b) && leb (row_count b) 4096

-- 1 fewer than 11 bytes, 2 "a size outside its range", 3 length is not 11 + 2 × S, or more than 4,294,967,294 turns
abbrev pub shape_refusal : List ℕ → ℕ → ℕ
shape_refusal b turns =
    if ltb (length b) 11 then 1 else if not (sizes_in_range b) then 2
    else if not (eqb (length b) (11 + 2 * row_count b)) then 3 else if ltb 4294967294 turns then 3 else 0

-- then 5 and 6 "row by row over all rows before the first" turn
abbrev pub refusal : List ℕ → ℕ → ℕ
refusal b turns = or_else (shape_refusal b turns) (first_refusal (sizes_of b) (paired (threads_of b) (orders_of b)))

-- ---- the run of a file at these turns

-- 0 or the number of the refusal, and what is known at the end; nothing after 1 to 3, 5 and 6. "7 where a call does not
-- suit when its turn comes"
pub record Ran : Type 0 where
  pub answer : ℕ
  pub going : Option Going

abbrev pub ran_to : Went → Ran
ran_to (on g) = record { answer = 0; going = some g }
ran_to (stopped n g) = record { answer = n; going = some g }

abbrev pub ran_unless : ℕ → Went → Ran
ran_unless zero w = ran_to w
ran_unless (suc n) w = record { answer = suc n; going = none }

unfoldable pub site_run : List ℕ → List ℕ → Ran
unfolding run
site_run b ts = ran_unless (refusal b (length ts)) (site (site_of b) ts)
