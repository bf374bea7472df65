use Rattle.std.proofs.Common.{◌≡◌, ◌-◌}
use Rattle.rules.specs.Bytes.{nodes_of, checked}
use Rattle.rules.proofs.read.Nodes.validate.Given as goal

abbrev pub invariant-loop : goal.invariant-loop
invariant-loop l = record {
  left : checked (nodes_of l.self.all l.self.count (l.self.count - l.counter) l.self.rest.now) ≡ checked (nodes_of l.fn.self.all l.fn.self.count l.fn.self.count l.fn.self.rest.now);
  all : l.self.all ≡ l.fn.self.all;
  count : l.self.count ≡ l.fn.self.count;
}
