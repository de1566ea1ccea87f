-- What a line says, without where it lies in memory.
use Rattle.std.specs.Prelude.{string_bytes}
use Rattle.session_input.specs.declared.parsed_line.ParsedLine.{ParsedLine as ParsedLineInMemory}
use Rattle.session_input.specs.declared.parsed_line.ParsedLine.TheVariants as memory
use Rattle.session_input.specs.Commands.{ParsedLine, command_of}
use Rattle.session_input.specs.Commands.ParsedLine.{blank, file_begins, whole_command}

abbrev pub parsed_line_of : ParsedLineInMemory → ParsedLine
parsed_line_of memory.Blank = blank
parsed_line_of (memory.FileBegins p) = file_begins (string_bytes p)
parsed_line_of (memory.Command c) = whole_command (command_of c)
