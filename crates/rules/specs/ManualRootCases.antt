-- Worked cases of change C-15, as one list under one claim: the root of 90 step by step, and both ends.
use Rattle.std.specs.Prelude.{◌≡◌, refl, ◌-◌, ◌^◌}
use Rattle.std.specs.Int.Count.{count_leading_zeros}
use Rattle.rules.specs.Length.{kept, root_from}
use Rattle.rules.specs.ManualRoot.{binary_digits, trials, first_power, manual_root}

pub record ManualRootCases : Type 0 where
  -- 90 has 64 − 57 binary digits, and its root 4: 8, 4, 2 and 1 are tried
  pub zeros_of_90 : count_leading_zeros 64 90 ≡ 57
  pub digits_of_90 : binary_digits 90 ≡ 7
  pub trials_of_90 : trials 90 ≡ 4
  pub first_of_90 : first_power 90 ≡ 8
  -- 8² = 64 is not above 90, 12² = 144 and 10² = 100 are, 9² = 81 is not
  pub eight_kept : kept 90 0 8 ≡ 8
  pub four_not_kept : kept 90 8 4 ≡ 8
  pub two_not_kept : kept 90 8 2 ≡ 8
  pub one_kept : kept 90 8 1 ≡ 9
  pub root_of_90 : manual_root 90 ≡ 9
  -- the root of a square is its side
  pub root_of_81 : manual_root 81 ≡ 9
  pub root_of_80 : manual_root 80 ≡ 8
  -- an odd number of digits and an even one
  pub trials_of_64 : trials 64 ≡ 4
  pub trials_of_63 : trials 63 ≡ 3
  -- nought: no trial
  pub trials_of_0 : trials 0 ≡ 0
  pub first_of_0 : first_power 0 ≡ 0
  pub root_of_0 : manual_root 0 ≡ 0
  -- the largest i64
  pub trials_of_the_largest : trials (2 ^ 63 - 1) ≡ 32
  pub first_of_the_largest : first_power (2 ^ 63 - 1) ≡ 2147483648
  pub root_of_the_largest : manual_root (2 ^ 63 - 1) ≡ 3037000499

pub manual_root_cases : ManualRootCases
unfolding count_leading_zeros binary_digits trials first_power root_from manual_root
manual_root_cases = record {
  zeros_of_90 = refl;
  digits_of_90 = refl;
  trials_of_90 = refl;
  first_of_90 = refl;
  eight_kept = refl;
  four_not_kept = refl;
  two_not_kept = refl;
  one_kept = refl;
  root_of_90 = refl;
  root_of_81 = refl;
  root_of_80 = refl;
  trials_of_64 = refl;
  trials_of_63 = refl;
  trials_of_0 = refl;
  first_of_0 = refl;
  root_of_0 = refl;
  trials_of_the_largest = refl;
  first_of_the_largest = refl;
  root_of_the_largest = refl;
}
