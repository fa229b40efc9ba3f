pub mod FewDeclared
