-- The angles of an instant, as the tests get them: the paper's number and values. Definitions only.
use Rattle.std.specs.Prelude.{get_or, pos}
use Rattle.rules.specs.Refusals.{Answer}
use Rattle.tests_functions.specs.declared.angles.TestsAngle.{TestsAngle}
use Rattle.tests_functions.specs.declared.angle_sets.TestsPrecessed.{TestsPrecessed}
use Rattle.tests_functions.specs.declared.angle_sets.TestsFiveArguments.{TestsFiveArguments}
use Rattle.tests_functions.specs.declared.angle_sets.TestsNutated.{TestsNutated}

-- the number, and the values in their order
unfoldable pub tests_angle : Answer → TestsAngle
tests_angle a = record { refused = pos a.number; angle = get_or a.values 0 (pos 0) }

unfoldable pub tests_precessed : Answer → TestsPrecessed
tests_precessed a = record {
  refused = pos a.number;
  zeta = get_or a.values 0 (pos 0);
  z = get_or a.values 1 (pos 0);
  theta = get_or a.values 2 (pos 0);
}

unfoldable pub tests_five_arguments : Answer → TestsFiveArguments
tests_five_arguments a = record {
  refused = pos a.number;
  l = get_or a.values 0 (pos 0);
  l1 = get_or a.values 1 (pos 0);
  f = get_or a.values 2 (pos 0);
  d = get_or a.values 3 (pos 0);
  om = get_or a.values 4 (pos 0);
}

unfoldable pub tests_nutated : Answer → TestsNutated
tests_nutated a = record {
  refused = pos a.number;
  longitude = get_or a.values 0 (pos 0);
  obliquity = get_or a.values 1 (pos 0);
}
