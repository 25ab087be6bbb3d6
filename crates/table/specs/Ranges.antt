-- What a kind of table allows.
use Rattle.model.specs.Table.{ops, most_registers, least_rounds, most_rounds, most_instructions}
use Rattle.model.specs.declared.code.Kind.{Kind}
use Rattle.table.specs.declared.ranges.Ranges.{Ranges}

abbrev pub ranges_of : Kind → Ranges
ranges_of k =
    record {
      ops = ops k;
      registers = most_registers k;
      least_rounds = least_rounds k;
      most_rounds = most_rounds k;
      instructions = most_instructions k;
    }
